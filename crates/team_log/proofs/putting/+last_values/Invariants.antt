use Rattle.std.proofs.Common.{length}
use Rattle.team_log.proofs.putting.+last_values.Given as goal

abbrev pub decreases-last_values : goal.decreases-last_values
decreases-last_values l = length l.logs.now
