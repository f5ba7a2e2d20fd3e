use Rattle.std.proofs.Common.{length}
use Rattle.team_in_place.proofs.running.+are_quiet.Given as goal

abbrev pub decreases-are_quiet : goal.decreases-are_quiet
decreases-are_quiet l = length l.ops.now
