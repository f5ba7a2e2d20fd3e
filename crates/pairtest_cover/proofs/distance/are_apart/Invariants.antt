use Rattle.std.proofs.Common.{◌≡◌, ◌↔◌, ◌<◌, ◌*ℤ◌, ℕ, pos, true, slice_index_or}
use Rattle.pairtest_cover.specs.Covered.{IsApart}
use Rattle.pairtest_cover.proofs.distance.are_apart.Given as goal

-- in each loop so far the accesses are so far apart, or not in all
abbrev pub invariant-loop-at : goal.invariant-loop-at
invariant-loop-at l = (l.all ≡ true) ↔ ((k : ℕ) → k < l.at → IsApart l.nest l.x l.y k (l.fn.times *ℤ slice_index_or l.sink k (pos 0)))
