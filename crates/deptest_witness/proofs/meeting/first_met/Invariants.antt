use Rattle.std.proofs.Common.{ℕ, List, ◌<◌}
use Rattle.deptest_witness.specs.Elements.{NamesAt}
use Rattle.deptest_witness.specs.Pairs.{Meet}
use Rattle.deptest_witness.proofs.meeting.first_met.Given as goal

abbrev pub invariant-loop-later : goal.invariant-loop-later
invariant-loop-later l = (u v : ℕ) (is : List ℕ) → u < v → v < l.later → Meet (NamesAt l.firsts) (NamesAt l.seconds) u v is → ⊥
