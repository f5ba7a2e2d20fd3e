use Rattle.std.proofs.Common.{length}
use Rattle.team_log.proofs.putting.+combine_logs.Given as goal

abbrev pub decreases-combine_logs : goal.decreases-combine_logs
decreases-combine_logs l = length l.logs.now
