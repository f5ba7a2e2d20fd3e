use Rattle.std.proofs.Common.{length}
use Rattle.team_log.proofs.partials.+enter_all.Given as goal

abbrev pub decreases-enter_all : goal.decreases-enter_all
decreases-enter_all l = length l.logs.now
