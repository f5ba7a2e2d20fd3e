use Rattle.std.proofs.Common.{◌≡◌, ℕ, ◌<◌, ◌≤◌, ◌-◌, length}
use Rattle.std.specs.Prelude.{slice_index}
use Rattle.team_in_place.specs.Scanning.{start_of}
use Rattle.team_in_place.proofs.scan_sharing.begin_shares.Given as goal

abbrev pub invariant-loop-at : goal.invariant-loop-at
invariant-loop-at l =
    (length l.sums ≡ length l.fn.sums) × ((l.at ≤ length l.sums) × ((l.start ≡ start_of l.fn.first l.fn.sums l.at)
    × (((k : ℕ) → k < l.at → slice_index l.sums k ≡ start_of l.fn.first l.fn.sums k) × ((k : ℕ) → l.at ≤ k → slice_index l.sums k ≡ slice_index l.fn.sums k))))

abbrev pub decreases-loop-at : goal.decreases-loop-at
decreases-loop-at l = length l.sums - l.at
