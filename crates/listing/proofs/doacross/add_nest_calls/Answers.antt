use Rattle.std.specs.Prelude.{[], ◌∷◌, ◌++◌, map, codes}
use Rattle.std.proofs.Common.{sym, ap, ◌∙◌}
use Rattle.semantics.specs.Directives.Listing.{doacross_calls}
use Rattle.pragma_region.specs.Listed.{sink_kept}
use Rattle.listing.specs.Regions.{wait_line}
use Rattle.listing.proofs.Texts.{both_added_ok, lines_same}
use Rattle.listing.proofs.doacross.add_nest_calls.Goals as goal

pub returns-in_ok-add_waits-in-Some-clause-added : goal.returns-in_ok-add_waits-in-Some-clause-added
returns-in_ok-add_waits-in-Some-clause-added c =
    let sinks = map sink_kept c.args.region_loop.now.sinks.items in
    let post = codes "__kmpc_doacross_post" ∷ [] in
    let waits = map wait_line (map sink_kept c.as_slice.result.now) in
    lines_same c.add_line.result c.args.region c.args.number c.args.text.now.items c.add_line.new.text.items (waits ++ post) (doacross_calls c.args.region_loop.now.doacross sinks)
    (ap (λ ss. map wait_line (map sink_kept ss) ++ post) c.as_slice.ensures.value ∙ sym (ap (λ o. doacross_calls o sinks) c.in-Some.is))
    (both_added_ok c.add_line.result c.args.region c.args.number c.args.text.now.items _ c.add_line.new.text.items waits post c.in_ok-add_waits-in-Some.ensures.added c.add_line.ensures.added)
