use Rattle.std.proofs.Common.{length}
use Rattle.team_log.proofs.applied.+apply_all.Given as goal

abbrev pub decreases-apply_all : goal.decreases-apply_all
decreases-apply_all l = length l.logs.now
