use Rattle.std.proofs.Common.{length}
use Rattle.nest_space.proofs.bounds.+are_modest.Given as goal

abbrev pub decreases-are_modest : goal.decreases-are_modest
decreases-are_modest l = length l.values.now
