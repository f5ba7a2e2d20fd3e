use Rattle.std.proofs.Common.{◌≡◌, ◌↔◌, true, take, length, All}
use Rattle.pairtest.specs.DirectionVectors.{dimensions}
use Rattle.pairtest_cover.specs.Covered.{IsUniform}
use Rattle.pairtest_cover.proofs.uniform.are_uniform.Given as goal

-- all dimensions so far are uniform, or not all are
abbrev pub invariant-loop-s : goal.invariant-loop-s
invariant-loop-s l = (l.all ≡ true) ↔ All (λ d. IsUniform l.nest d.0 d.1) (take (length l.yielded) (dimensions l.x l.y))
