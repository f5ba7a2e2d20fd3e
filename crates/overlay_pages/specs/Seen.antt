-- What contracts see of a chunk that runs over a store.
use Rattle.std.specs.Prelude.{ℕ, ◌≡◌, List, [], ◌∷◌, Option, length}
use Rattle.store.specs.Kept.{Kept}
use Rattle.store.specs.Flat.{values_of}
use Rattle.overlay_pages.specs.Over.{written_over, writes_in}

-- the store that was lent, and for each place among its cells what the chunk wrote there, if anything
pub record Seen : Type 0 where
  pub store : List Kept
  pub written : List (Option ℕ)

-- the cells as the chunk sees them: the store's, with what the chunk wrote over them
abbrev pub cells_of : Seen → List ℕ
cells_of c = written_over (writes_in c.written) (values_of c.store)

-- the lent store as lists: of each variable its lengths and its values
abbrev pub lent_of : List Kept → List (List ℕ)
lent_of [] = []
lent_of (k ∷ ks) = k.lengths ∷ k.values ∷ lent_of ks

-- as many entries as cells
abbrev pub IsOver : Seen → Type 0
IsOver c = length c.written ≡ length (values_of c.store)
