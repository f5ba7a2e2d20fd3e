use Rattle.std.proofs.Common.{length}
use Rattle.nest_space.proofs.fixed.+rise.Given as goal

abbrev pub decreases-rise : goal.decreases-rise
decreases-rise l = length l.loops.now
