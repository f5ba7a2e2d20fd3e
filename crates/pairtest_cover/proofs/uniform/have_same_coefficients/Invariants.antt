use Rattle.std.proofs.Common.{◌≡◌, ◌↔◌, ◌<◌, ℕ, true}
use Rattle.pairtest.specs.DirectionVectors.{coefficient}
use Rattle.pairtest_cover.proofs.uniform.have_same_coefficients.Given as goal

-- the coefficients so far are the same, or not all are
abbrev pub invariant-loop-i : goal.invariant-loop-i
invariant-loop-i l = (l.same ≡ true) ↔ ((j : ℕ) → j < l.i → coefficient l.s j ≡ coefficient l.t j)
