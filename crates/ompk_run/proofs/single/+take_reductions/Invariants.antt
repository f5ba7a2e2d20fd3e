use Rattle.std.proofs.Common.{length}
use Rattle.ompk_run.proofs.single.+take_reductions.Given as goal

abbrev pub decreases-take_reductions : goal.decreases-take_reductions
decreases-take_reductions l = length l.reductions.now
