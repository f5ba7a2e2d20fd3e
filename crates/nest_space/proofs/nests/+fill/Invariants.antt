use Rattle.std.proofs.Common.{length}
use Rattle.nest_space.proofs.nests.+fill.Given as goal

abbrev pub decreases-fill : goal.decreases-fill
decreases-fill l = length l.loops.now
