-- The state that locals and file-scope variables stand for, and where an element lies among its array's values.
use Rattle.std.specs.Prelude.{ℕ, ◌+◌, ◌*◌, nat_lt, if◌then◌else◌, List, [], ◌∷◌, Option, Some, None, option_and_then, slice_get}
use Rattle.semantics.specs.Tree.{Variable}
use Rattle.semantics.specs.Meaning.State
use Rattle.store.specs.Kept.{Kept, state_of}
use Rattle.seqrun_value.specs.declared.frame.Slot.{Slot}
use Rattle.seqrun_value.specs.declared.frame.Slot.TheVariants.{Outside, Empty, Holds}

-- what stands for a variable; nothing behind the last
abbrev pub slot_of : Option Slot → State.Slot
slot_of None = State.Outside
slot_of (Some Outside) = State.Outside
slot_of (Some Empty) = State.Empty
slot_of (Some (Holds v)) = State.Holds v

abbrev pub locals_of : List Slot → Variable → State.Slot
locals_of slots x = slot_of (slice_get slots x)

-- the state of these locals over these file-scope variables
abbrev pub standing : List Slot → List Kept → State.State
standing slots ks = record { cells = (state_of ks).cells; locals = locals_of slots }

-- the place of an element behind those of earlier rows, where each index is below its length (C11 6.5.2.1, 3)
abbrev pub offset_from : ℕ → List ℕ → List ℕ → Option ℕ
offset_from at [] [] = Some at
offset_from at [] (i ∷ is) = None
offset_from at (n ∷ ns) [] = None
offset_from at (n ∷ ns) (i ∷ is) = if nat_lt i n then offset_from (at * n + i) ns is else None

-- the same for indexes that may have no value
abbrev pub way_from : ℕ → List ℕ → Option (List ℕ) → Option ℕ
way_from at ns None = None
way_from at ns (Some is) = offset_from at ns is

-- where the element of these indexes lies among an array's values
abbrev pub place_in : Kept → Option (List ℕ) → Option ℕ
place_in a is = way_from 0 a.lengths is

-- and what it holds
abbrev pub cell_in : Kept → Option (List ℕ) → Option ℕ
cell_in a is = option_and_then (λ k. slice_get a.values k) (place_in a is)

-- and where the array is that of a file-scope variable
abbrev pub cell_among : List Kept → Variable → Option (List ℕ) → Option ℕ
cell_among ks x is = option_and_then (λ a. cell_in a is) (slice_get ks x)
