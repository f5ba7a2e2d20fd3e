use Rattle.std.proofs.Common.{take, length, All}
use Rattle.pairtest.specs.DirectionVectors.{dimensions}
use Rattle.pairtest_cover.specs.Covered.{StandsIn}
use Rattle.pairtest_cover.proofs.distance.steps_at.Given as goal

-- the counter stands in no dimension so far
abbrev pub invariant-loop-s : goal.invariant-loop-s
invariant-loop-s l = All (λ d. ¬ (StandsIn l.nest l.at d.0)) (take (length l.yielded) (dimensions l.x l.y))
