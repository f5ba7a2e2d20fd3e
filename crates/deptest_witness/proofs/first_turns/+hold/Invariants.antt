use Rattle.std.proofs.Common.{length}
use Rattle.deptest_witness.proofs.first_turns.+hold.Given as goal

abbrev pub decreases-hold : goal.decreases-hold
decreases-hold l = length l.loops.now
