use Rattle.std.proofs.Common.{length}
use Rattle.nest_space.proofs.bounds.+value_of.Given as goal

abbrev pub decreases-value_of : goal.decreases-value_of
decreases-value_of l = length l.values.now
