use Rattle.std.proofs.Common.{List, ◌++◌, take}
use Rattle.pairtest.specs.Equations.{Unknown}
use Rattle.pairtest.specs.DirectionVectors.{counters}
use Rattle.pairtest.specs.Reached.{Summarizes}
use Rattle.pairtest.proofs.reach.Reach.with_counters.Given as goal

-- the counters of the loops before are in the sum
abbrev pub invariant-loop-at : goal.invariant-loop-at
invariant-loop-at l = (us : List Unknown) → Summarizes l.fn.self us → Summarizes l.reach (us ++ counters l.earlier l.later (take l.at l.turns))
