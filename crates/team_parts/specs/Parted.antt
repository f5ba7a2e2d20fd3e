-- Cells of which a part is a thread's own.
use Rattle.std.specs.Prelude.{ℕ, ◌++◌, List, [], ◌∷◌, replicate}

-- cells in front, places of others, cells of its own, places of others, and cells behind
abbrev pub parted : List ℕ → ℕ → List ℕ → ℕ → List ℕ → List ℕ
parted before left own right behind = before ++ (replicate left 0 ++ (own ++ (replicate right 0 ++ behind)))

-- all cells in one list, where they stand so, and else in parts
abbrev pub cells_held : List ℕ → List ℕ → List ℕ
cells_held [] parts = parts
cells_held (x ∷ xs) parts = x ∷ xs

-- memory for all cells: what it holds, and for how many it has room
pub record Kept : Type 0 where
  pub items : List ℕ
  pub room : ℕ
