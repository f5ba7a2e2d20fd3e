use Rattle.std.proofs.Common.{◌≡◌, ◌<◌, ℕ, pos, slice_index_or}
use Rattle.pairtest_cover.proofs.distance.steps_of.Given as goal

-- the sink goes nowhere in the loops so far
abbrev pub invariant-loop-at : goal.invariant-loop-at
invariant-loop-at l = (k : ℕ) → k < l.at → slice_index_or l.sink k (pos 0) ≡ pos 0
