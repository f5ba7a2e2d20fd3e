use Rattle.std.proofs.Common.{length}
use Rattle.pairtest_counter.proofs.convert.+scale_term.Given as goal

abbrev pub decreases-scale_term : goal.decreases-scale_term
decreases-scale_term l = length l.levels.now
