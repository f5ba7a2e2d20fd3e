use Rattle.std.proofs.Common.{ℕ, ◌≡◌, ◌≢◌, ◌<◌, true}
use Rattle.std.specs.Prelude.{◌↔◌, slice_index}
use Rattle.overlay_pages.proofs.gathering.differ.Given as goal

-- those so far do, or not
abbrev pub invariant-loop-k : goal.invariant-loop-k
invariant-loop-k l = (l.all ≡ true) ↔ ((j : ℕ) → j < l.k → slice_index l.values j ≢ slice_index l.held j)
