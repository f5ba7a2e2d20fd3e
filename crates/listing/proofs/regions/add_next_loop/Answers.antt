use Rattle.std.proofs.Common.{refl, ◌+◌}
use Rattle.pragma_region.specs.Listed.{loop_said}
use Rattle.listing.proofs.Printed.{loop_added}
use Rattle.listing.proofs.regions.add_next_loop.Goals as goal

pub returns-clause-added : goal.returns-clause-added
returns-clause-added c = loop_added c.args.before (c.args.before.loops + 1) (loop_said c.args.region_loop.now) c.args.text.now.items _ refl c.in_ok-add_loop.ensures.added
