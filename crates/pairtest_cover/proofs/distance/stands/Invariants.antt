use Rattle.std.proofs.Common.{◌≡◌, ◌↔◌, true, take, length, Any}
use Rattle.pairtest.specs.DirectionVectors.{dimensions}
use Rattle.pairtest_cover.specs.Covered.{StandsIn}
use Rattle.pairtest_cover.proofs.distance.stands.Given as goal

-- the counter stands in a dimension so far, or in none
abbrev pub invariant-loop-s : goal.invariant-loop-s
invariant-loop-s l = (l.any ≡ true) ↔ Any (λ d. StandsIn l.nest l.at d.0) (take (length l.yielded) (dimensions l.x l.y))
