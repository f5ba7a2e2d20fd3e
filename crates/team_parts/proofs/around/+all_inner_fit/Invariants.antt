use Rattle.std.proofs.Common.{length}
use Rattle.team_parts.proofs.around.+all_inner_fit.Given as goal

abbrev pub decreases-all_inner_fit : goal.decreases-all_inner_fit
decreases-all_inner_fit l = length l.ops.now
