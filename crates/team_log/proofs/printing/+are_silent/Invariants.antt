use Rattle.std.proofs.Common.{length}
use Rattle.team_log.proofs.printing.+are_silent.Given as goal

abbrev pub decreases-are_silent : goal.decreases-are_silent
decreases-are_silent l = length l.logs.now
