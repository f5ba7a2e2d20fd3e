use Rattle.std.proofs.Common.{length}
use Rattle.nest_space.proofs.fixed.+have_numbers.Given as goal

abbrev pub decreases-have_numbers : goal.decreases-have_numbers
decreases-have_numbers l = length l.loops.now
