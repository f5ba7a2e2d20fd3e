-- The values of all variables in one list of cells: variable behind variable, each row by row. (C11 6.5.2.1, 3)
use Rattle.std.specs.Prelude.{ℕ, ◌≡◌, List, [], ◌∷◌, length, take, drop, flat_map, replicate}
use Rattle.std.specs.List.{AllByRecursion}
use Rattle.semantics.specs.Meaning.Places.{size}
use Rattle.store.specs.Kept.{Kept}

-- each variable has as many values as elements
abbrev pub AreFilled : List Kept → Type 0
AreFilled ks = AllByRecursion (λ (k : Kept). length k.values ≡ size k.lengths) ks

-- all values, one variable behind another
abbrev pub values_of : List Kept → List ℕ
values_of ks = flat_map (λ (k : Kept). k.values) ks

-- the variables with cells for their values, one behind another
abbrev pub filled : List ℕ → List Kept → List Kept
filled cells [] = []
filled cells (k ∷ ks) = record { lengths = k.lengths; values = take (length k.values) cells } ∷ filled (drop (length k.values) cells) ks

-- a variable of these dimensions, each element 0
abbrev pub zeros_of : List ℕ → Kept
zeros_of lengths = record { lengths = lengths; values = replicate (size lengths) 0 }
