use Rattle.std.proofs.Common.{length}
use Rattle.cparse.proofs.extent.+size.Given as goal

abbrev pub decreases-size : goal.decreases-size
decreases-size l = length l.lengths.now
