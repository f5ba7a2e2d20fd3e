use Rattle.std.proofs.Common.{◌≡◌, ◌<◌, ◌≤◌, ℕ, pos}
use Rattle.pairtest.specs.DirectionVectors.{coefficient}
use Rattle.pairtest_cover.proofs.uniform.first_from.Given as goal

-- the coefficients so far are 0
abbrev pub invariant-loop-place : goal.invariant-loop-place
invariant-loop-place l = (i : ℕ) → l.from ≤ i → i < l.place → coefficient l.coefficients i ≡ pos 0
