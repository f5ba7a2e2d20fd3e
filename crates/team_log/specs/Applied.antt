-- Cells after the changes of several chunks.
use Rattle.std.specs.Prelude.{ℕ, ◌≡◌, ◌<◌, ◌⊎◌, List, length, All, Some, None, slice_get}
use Rattle.overlay_pages.specs.Over.{writes_of}
use Rattle.team_log.specs.Logged.{Leaving}

-- no chunk writes at this place
abbrev pub NoneWrites : List Leaving → ℕ → Type 0
NoneWrites cs place = All (λ c. writes_of c.changes place ≡ None) cs

-- one of them does, and this cell holds what it writes
pub record OneWrites (cs : List Leaving) (after : List ℕ) (place : ℕ) : Type 0 where
  pub number : ℕ
  pub chunk : Leaving
  pub among : slice_get cs number ≡ Some chunk
  pub value : ℕ
  pub writes : writes_of chunk.changes place ≡ Some value
  pub holds : slice_get after place ≡ Some value

-- each cell is as before where no chunk writes it, and else as one of them writes it
pub record AreApplied (before after : List ℕ) (cs : List Leaving) : Type 0 where
  pub long : length after ≡ length before
  pub each : (place : ℕ) → place < length before → (NoneWrites cs place × (slice_get after place ≡ slice_get before place)) ⊎ OneWrites cs after place
