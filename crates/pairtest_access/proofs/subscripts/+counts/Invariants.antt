use Rattle.std.proofs.Common.{length}
use Rattle.pairtest_access.proofs.subscripts.+counts.Given as goal

abbrev pub decreases-counts : goal.decreases-counts
decreases-counts l = length l.levels.now
