use Rattle.std.proofs.Common.{drop}
use Rattle.nest_space.proofs.Onward.{IsPlaced}
use Rattle.nest_space.proofs.iterations.place.Given as goal

abbrev pub invariant-loop-i : goal.invariant-loop-i
invariant-loop-i l = IsPlaced (drop l.i l.loops) (drop l.i l.values) l.number l.outer
