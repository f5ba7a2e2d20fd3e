use Rattle.std.proofs.Common.{length}
use Rattle.waves.proofs.sinks.+is_ahead.Given as goal

abbrev pub decreases-is_ahead : goal.decreases-is_ahead
decreases-is_ahead l = length l.distance.now
