use Rattle.std.proofs.Common.{length}
use Rattle.pairtest_access.proofs.subscripts.+coefficient.Given as goal

abbrev pub decreases-coefficient : goal.decreases-coefficient
decreases-coefficient l = length l.terms.now
