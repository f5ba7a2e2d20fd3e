-- The elements of an array, row by row. (C11 6.5.2.1, 3)
use Rattle.std.specs.Prelude.{ℕ, Bool, true, false, ◌&&◌, ◌+◌, ◌*◌, nat_lt, List, [], ◌∷◌, ◌++◌, map, flat_map}

-- 0, 1, .. n - 1, behind those that are there
abbrev pub below : ℕ → List ℕ
below ℕ.zero = []
below (ℕ.suc n) = below n ++ n ∷ []

-- all lists of indexes of an array of these lengths, in C's order
abbrev pub all_indexes : List ℕ → List (List ℕ)
all_indexes [] = [] ∷ []
all_indexes (n ∷ ns) = flat_map (λ i. map (λ is. i ∷ is) (all_indexes ns)) (below n)

-- each index is below its own length, and there are as many
abbrev pub within : List ℕ → List ℕ → Bool
within [] [] = true
within (n ∷ ns) (i ∷ is) = nat_lt i n && within ns is
within [] (i ∷ is) = false
within (n ∷ ns) [] = false

-- the number of elements
abbrev pub size : List ℕ → ℕ
size [] = 1
size (n ∷ ns) = n * size ns

-- where an element stands in that order
abbrev pub place_from : ℕ → List ℕ → List ℕ → ℕ
place_from at (n ∷ ns) (i ∷ is) = place_from (at * n + i) ns is
place_from at [] is = at
place_from at (n ∷ ns) [] = at

-- counted from 0
abbrev pub place : List ℕ → List ℕ → ℕ
place ns is = place_from 0 ns is
