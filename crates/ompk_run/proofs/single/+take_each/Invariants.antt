use Rattle.std.proofs.Common.{length}
use Rattle.ompk_run.proofs.single.+take_each.Given as goal

abbrev pub decreases-take_each : goal.decreases-take_each
decreases-take_each l = length l.spots.now
