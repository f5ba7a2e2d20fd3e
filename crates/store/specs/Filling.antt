-- Numbers in a row, each by its place.
use Rattle.std.specs.Prelude.{ℕ, zero, suc, List, [], ◌∷◌, ◌++◌}

-- the first so many numbers of a rule
abbrev pub row_of : (ℕ → ℕ) → ℕ → List ℕ
row_of number zero = []
row_of number (suc n) = row_of number n ++ number n ∷ []
