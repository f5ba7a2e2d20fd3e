use Rattle.std.proofs.Common.{length}
use Rattle.overlay.proofs.beginning.+begin.Given as goal

abbrev pub decreases-begin : goal.decreases-begin
decreases-begin l = length l.reductions.now
