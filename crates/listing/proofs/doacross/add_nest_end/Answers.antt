use Rattle.std.specs.Prelude.{[], ◌∷◌, codes}
use Rattle.std.proofs.Common.{sym, ap}
use Rattle.semantics.specs.Directives.Listing.{doacross_end}
use Rattle.listing.proofs.Texts.{lines_same}
use Rattle.listing.proofs.doacross.add_nest_end.Goals as goal

pub returns-in-Some-clause-added : goal.returns-in-Some-clause-added
returns-in-Some-clause-added c =
    lines_same c.add_line.result c.args.region c.args.number c.args.text.now.items c.add_line.new.text.items (codes "__kmpc_doacross_fini" ∷ []) (doacross_end c.args.region_loop.now.doacross)
    (sym (ap doacross_end c.in-Some.is)) c.add_line.ensures.added
