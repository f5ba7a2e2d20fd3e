use Rattle.std.proofs.Common.{length}
use Rattle.deptest_witness.proofs.first_turns.+first_turns.Given as goal

abbrev pub decreases-first_turns : goal.decreases-first_turns
decreases-first_turns l = length l.loops.now
