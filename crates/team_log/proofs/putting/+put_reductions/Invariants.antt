use Rattle.std.proofs.Common.{length}
use Rattle.team_log.proofs.putting.+put_reductions.Given as goal

abbrev pub decreases-put_reductions : goal.decreases-put_reductions
decreases-put_reductions l = length l.reductions.now
