use Rattle.std.proofs.Common.{length}
use Rattle.pragma_region.proofs.sinks.+depth_of.Given as goal

abbrev pub decreases-depth_of : goal.decreases-depth_of
decreases-depth_of l = length l.clauses.now
