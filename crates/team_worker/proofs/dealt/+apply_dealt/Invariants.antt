use Rattle.std.proofs.Common.{length}
use Rattle.team_worker.proofs.dealt.+apply_dealt.Given as goal

abbrev pub decreases-apply_dealt : goal.decreases-apply_dealt
decreases-apply_dealt l = length l.places.now.items
