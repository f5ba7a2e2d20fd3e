use Rattle.std.specs.Prelude.{map}
use Rattle.std.proofs.Common.{ap}
use Rattle.pragma_region.specs.Listed.{reduction_named, loop_said}
use Rattle.listing.specs.Regions.{listed_loop}
use Rattle.listing.proofs.Texts.{loop_ok}
use Rattle.listing.proofs.calls.add_plain.Goals as goal

pub returns-clause-added : goal.returns-clause-added
returns-clause-added c =
    loop_ok c.add_barrier.result c.args.region c.args.number (listed_loop (loop_said c.args.region_loop.now)) (map reduction_named c.as_slice.result.now) _ _ _ _ c.requires (ap (map reduction_named) c.as_slice.ensures.value)
    c.in_ok-add_turns.ensures.added c.in_ok-add_reductions.ensures.added c.add_barrier.ensures.added
