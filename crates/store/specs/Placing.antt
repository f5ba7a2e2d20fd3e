-- Variables that lie one behind another in one list of cells.
use Rattle.std.specs.Prelude.{ℕ, ◌≡◌, ◌+◌, List, [], ◌∷◌, map, take, drop}
use Rattle.store.specs.Kept.{Kept}
use Rattle.store.specs.declared.arrays.Placed.{Placed}

-- a variable that lies there
abbrev pub kept_at : List ℕ → Placed → Kept
kept_at cells p = record { lengths = p.shape.lengths.items; values = take p.shape.count (drop p.first cells) }

abbrev pub kept_in : List ℕ → List Placed → List Kept
kept_in cells ps = map (kept_at cells) ps

-- the first lies from a cell on, each other one behind the one before it, and the last ends at a cell
abbrev pub Lie : ℕ → List Placed → ℕ → Type 0
Lie from [] end = from ≡ end
Lie from (p ∷ ps) end = (p.first ≡ from) × Lie (from + p.shape.count) ps end
