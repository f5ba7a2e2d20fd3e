-- Changes of cells side by side, in runs.
use Rattle.std.specs.Prelude.{ℕ, suc, ◌≡◌, ◌+◌, ◌/◌, ◌%◌, List, [], ◌∷◌, ◌++◌, take, drop, slice_index}
use Rattle.overlay_pages.specs.declared.changes.Change.{Change}

-- the cells from a place on take these values
abbrev pub row : ℕ → List ℕ → List Change
row place [] = []
row place (v ∷ vs) = record { place = place; value = v } ∷ row (suc place) vs

-- how many cells runs with these heads have
abbrev pub cells_in : List ℕ → ℕ
cells_in [] = 0
cells_in (h ∷ hs) = (h % 64 + 1) + cells_in hs

-- the changes of runs with these heads, and with these values one behind another
abbrev pub changes_in : List ℕ → List ℕ → List Change
changes_in [] vs = []
changes_in (h ∷ hs) vs = row (h / 64) (take (h % 64 + 1) vs) ++ changes_in hs (drop (h % 64 + 1) vs)

-- each of these values is another one than the cell from a place on holds
abbrev pub AllDiffer : List ℕ → ℕ → List ℕ → Type 0
AllDiffer cells place [] = Unit {0}
AllDiffer cells place (v ∷ vs) = (v ≡ slice_index cells place → ⊥) × AllDiffer cells (suc place) vs
