use Rattle.std.proofs.Common.{length}
use Rattle.nest_space.proofs.bounds.+sum_at.Given as goal

abbrev pub decreases-sum_at : goal.decreases-sum_at
decreases-sum_at l = length l.terms.now
