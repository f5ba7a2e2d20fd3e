use Rattle.nest_space.proofs.Onward.{AreThrough}
use Rattle.nest_space.proofs.iterations.step.Given as goal

abbrev pub invariant-loop-i : goal.invariant-loop-i
invariant-loop-i l = AreThrough l.loops l.fn.values l.values l.i
