-- Rows of a space: from number to number the innermost loop's variable takes its step, and the variables of the others stay. (OpenMP 5.2, 4.4.2)
use Rattle.std.specs.Prelude.{ℕ, ◌≡◌, ◌+◌, ◌-◌, ◌*◌, ◌%◌, ◌<◌, ◌^◌, List, [], ◌∷◌, Some, slice_get}
use Rattle.semantics.specs.Loops.Nest.{Vector}
use Rattle.nest_loop.specs.declared.stride.Direction.{Direction}
use Rattle.nest_loop.specs.declared.stride.Direction.TheVariants.{Rising, Falling}
use Rattle.nest_space.specs.Space.{Turns}

-- values with another one in the place of the last
abbrev pub with_last : Vector → ℕ → Vector
with_last [] x = []
with_last (v ∷ []) x = x ∷ []
with_last (v ∷ w ∷ vs) x = v ∷ with_last (w ∷ vs) x

-- how often the innermost loop turns; where there is no loop there is one vector
abbrev pub turns_inside : List Turns → ℕ
turns_inside [] = 1
turns_inside (t ∷ []) = t.count
turns_inside (t ∷ u ∷ ts) = turns_inside (u ∷ ts)

-- what is added from turn to turn, modulo 2^64
abbrev pub growth : Direction → ℕ → ℕ
growth Rising by = by
growth Falling by = 2 ^ 64 - by

-- so many vectors from a number on are its own but for the last value, which is a first one there and grows by another from number to number, modulo 2^64
abbrev pub IsRow : List Vector → ℕ → ℕ → ℕ → ℕ → Type 0
IsRow space number first by count =
    (us : Vector) → slice_get space number ≡ Some us → (k : ℕ) → k < count → slice_get space (number + k) ≡ Some (with_last us ((first + k * by) % 2 ^ 64))
