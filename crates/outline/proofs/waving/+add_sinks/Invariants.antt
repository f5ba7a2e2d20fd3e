use Rattle.std.proofs.Common.{length}
use Rattle.outline.proofs.waving.+add_sinks.Given as goal

abbrev pub decreases-add_sinks : goal.decreases-add_sinks
decreases-add_sinks l = length l.distances.now
