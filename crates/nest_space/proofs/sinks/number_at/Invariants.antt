use Rattle.nest_space.proofs.Before.{IsReached}
use Rattle.nest_space.proofs.sinks.number_at.Given as goal

abbrev pub invariant-loop-i : goal.invariant-loop-i
invariant-loop-i l = IsReached l.loops l.values l.distance l.i l.number
