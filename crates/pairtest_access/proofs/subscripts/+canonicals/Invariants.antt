use Rattle.std.proofs.Common.{length}
use Rattle.pairtest_access.proofs.subscripts.+canonicals.Given as goal

abbrev pub decreases-canonicals : goal.decreases-canonicals
decreases-canonicals l = length l.levels.now
