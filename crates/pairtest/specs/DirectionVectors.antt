-- The cases in which two accesses of one array may meet in two iterations of a nest of parallel loops (OpenMP 5.2, 1.4.1 and 4.4.2).
use Rattle.std.specs.Prelude.{ℕ, ℤ, pos, ◌+◌, ◌-◌, ◌<◌, ◌-ℤ◌, ◌+ℤ◌, ◌⊎◌, List, [], ◌∷◌, ◌++◌, length, take, drop, slice_index, slice_index_or, Any, All, Contains}
use Rattle.std.specs.List.{zip}
use Rattle.pairtest.specs.declared.access.Subscript.{Subscript}
use Rattle.pairtest.specs.declared.access.Access.{Access}
use Rattle.pairtest.specs.declared.access.Nest.{Nest}
use Rattle.pairtest.specs.Equations.{Unknown, unknown, Equation, equation, IsRefuted, NumbersWithin}

-- a loop's coefficient; one that is not written is 0
abbrev pub coefficient : List ℤ → ℕ → ℤ
coefficient cs at = slice_index_or cs at (pos 0)

-- the counters of loops with so many turns, each with what its coefficient on one side is above that on the other
abbrev pub counters : List ℤ → List ℤ → List ℕ → List Unknown
counters es ls [] = []
counters es ls (n ∷ ns) = unknown (coefficient es 0 -ℤ coefficient ls 0) n ∷ counters (drop 1 es) (drop 1 ls) ns

-- the place of a nest's m-th loop among all loops round an access
abbrev pub place_of : Nest → ℕ → ℕ
place_of nest m = length nest.serial.items + m

-- how many turns a nest's m-th loop takes at most
abbrev pub turns_of : Nest → ℕ → ℕ
turns_of nest m = slice_index nest.loops.items m

-- where the nest's m-th loop is the first whose counters differ: the loop's counter in the earlier iteration, and by how much more than 1 it is above that in the later one
abbrev pub differing : Nest → ℕ → List ℤ → List ℤ → List Unknown
differing nest m es ls =
    let at = place_of nest m in
    let values = turns_of nest m - 1 in
    unknown (coefficient es at -ℤ coefficient ls at) values ∷ unknown (pos 0 -ℤ coefficient ls at) values ∷ []

-- the unknowns of that case: the loops before have one counter for both iterations, those behind and the bodies' own have one for each
abbrev pub unknowns : Nest → ℕ → Access → Access → List ℤ → List ℤ → List Unknown
unknowns nest m earlier later es ls =
    let at = place_of nest m in
    let behind = drop (m + 1) nest.loops.items in
    counters es ls (nest.serial.items ++ take m nest.loops.items)
    ++ (differing nest m es ls
    ++ (counters (drop (at + 1) es) [] (behind ++ earlier.inner.items)
    ++ counters [] (drop (at + 1) ls) (behind ++ later.inner.items)))

-- in that case both subscripts have the same value
abbrev pub direction_equation : Nest → ℕ → Access → Access → Subscript → Subscript → Equation
direction_equation nest m earlier later s t =
    equation (unknowns nest m earlier later s.coefficients.items t.coefficients.items)
    ((t.constant -ℤ s.constant) +ℤ coefficient t.coefficients.items (place_of nest m))

-- there are no two such iterations: the m-th loop takes fewer than two turns, or some other loop takes none
abbrev pub IsBoxEmpty : Nest → ℕ → Access → Access → Type 0
IsBoxEmpty nest m earlier later =
    (turns_of nest m < 2) ⊎ Contains (nest.serial.items ++ (nest.loops.items ++ (earlier.inner.items ++ later.inner.items))) 0

-- the subscripts of two accesses, dimension by dimension
abbrev pub dimensions : Access → Access → List (Subscript × Subscript)
dimensions x y = zip x.subscripts.items y.subscripts.items

-- the accesses do not meet where the nest's m-th loop is the first whose counters differ, and the first access is made in the earlier iteration
abbrev pub IsDirectionRefuted : Nest → ℕ → Access → Access → Type 0
IsDirectionRefuted nest m earlier later =
    IsBoxEmpty nest m earlier later
    ⊎ Any (λ d. IsRefuted (direction_equation nest m earlier later d.0 d.1)) (dimensions earlier later)

-- every case is refuted: whichever loop of the nest is the first to differ, and whichever access comes first
abbrev pub AllRefuted : Nest → Access → Access → Type 0
AllRefuted nest x y = (m : ℕ) → m < length nest.loops.items → IsDirectionRefuted nest m x y × IsDirectionRefuted nest m y x

-- the numbers of the equations of a case are within 2^62
abbrev pub IsDirectionWithin : Nest → ℕ → Access → Access → Type 0
IsDirectionWithin nest m earlier later = All (λ d. NumbersWithin (direction_equation nest m earlier later d.0 d.1)) (dimensions earlier later)

-- so are those of every case
abbrev pub AllWithin : Nest → Access → Access → Type 0
AllWithin nest x y = (m : ℕ) → m < length nest.loops.items → IsDirectionWithin nest m x y × IsDirectionWithin nest m y x
