use Rattle.std.proofs.Common.{ℕ, List, ◌<◌}
use Rattle.deptest_witness.specs.Elements.{NamesAt}
use Rattle.deptest_witness.specs.Pairs.{Meet}
use Rattle.deptest_witness.proofs.meeting.met_at.Given as goal

abbrev pub invariant-loop-earlier : goal.invariant-loop-earlier
invariant-loop-earlier l = (u : ℕ) (is : List ℕ) → u < l.earlier → Meet (NamesAt l.firsts) (NamesAt l.seconds) u l.later is → ⊥
