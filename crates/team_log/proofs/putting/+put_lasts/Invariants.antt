use Rattle.std.proofs.Common.{length}
use Rattle.team_log.proofs.putting.+put_lasts.Given as goal

abbrev pub decreases-put_lasts : goal.decreases-put_lasts
decreases-put_lasts l = length l.spots.now
