use Rattle.std.proofs.Common.{length}
use Rattle.nest_space.proofs.reaching.+fill_reached.Given as goal

abbrev pub decreases-fill_reached : goal.decreases-fill_reached
decreases-fill_reached l = length l.loops.now
