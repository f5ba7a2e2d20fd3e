use Rattle.std.specs.Prelude.{[], ◌∷◌, ◌++◌, codes}
use Rattle.std.specs.Fmt.{decimal}
use Rattle.std.proofs.Common.{sym, ap, ◌∙◌}
use Rattle.semantics.specs.Directives.Listing.{doacross_begin}
use Rattle.listing.proofs.Texts.{lines_same}
use Rattle.listing.proofs.doacross.add_nest_begin.Goals as goal

pub returns-in-Some-clause-added : goal.returns-in-Some-clause-added
returns-in-Some-clause-added c =
    lines_same c.add_line.result c.args.region c.args.number c.args.text.now.items c.add_line.new.text.items _ (doacross_begin c.args.region_loop.now.doacross)
    (ap (λ d. (codes "__kmpc_doacross_init " ++ d) ∷ []) (c.as_bytes-size.ensures.value ∙ c.format.ensures.text ∙ ap decimal c.get.ensures.value) ∙ sym (ap doacross_begin c.in-Some.is)) c.add_line.ensures.added
