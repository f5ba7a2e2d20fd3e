use Rattle.std.proofs.Common.{◌≡◌, ◌↔◌, ◌*ℤ◌, true, take, length, All}
use Rattle.pairtest.specs.DirectionVectors.{dimensions}
use Rattle.pairtest_cover.specs.Covered.{StandsIn, IsEqualAt}
use Rattle.pairtest_cover.proofs.distance.are_equal.Given as goal

-- both sides of each dimension so far are equal there, or not of all
abbrev pub invariant-loop-s : goal.invariant-loop-s
invariant-loop-s l =
    (l.all ≡ true) ↔ All (λ d. StandsIn l.nest l.at d.0 → IsEqualAt l.nest l.at (l.fn.times *ℤ l.fn.step) d.0 d.1) (take (length l.yielded) (dimensions l.x l.y))
