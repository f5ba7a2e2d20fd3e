-- Numbers in rows of 8192, of which each may end before its last ones: these are 0.
use Rattle.std.specs.Prelude.{ℕ, ◌/◌, ◌%◌, List, [], map, get_or, slice_index}
use Rattle.std.specs.List.{range_with_len}

-- the number at a place
abbrev pub number_in : List (List ℕ) → ℕ → ℕ
number_in rows i = slice_index (get_or rows (i / 8192) []) (i % 8192)

-- the first so many numbers
abbrev pub numbers_in : List (List ℕ) → ℕ → List ℕ
numbers_in rows count = map (number_in rows) (range_with_len 0 count)
