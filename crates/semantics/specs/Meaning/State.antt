-- What a C program's objects hold. (C11 3.15 and 6.2.4)
use Rattle.std.specs.Prelude.{ℕ, Bool, true, false, ◌==◌, ◌&&◌, if◌then◌else◌, List, [], ◌∷◌, Option, Some, None, nat_eq}
use lib.Pointwise.{pointwise}
use Rattle.semantics.specs.Tree.{Variable}

-- a local: there is none of that name, it holds nothing yet, or it holds a number (C11 6.2.4, 6: its value is indeterminate at its declaration)
pub data Slot : Type 0 where
  Outside : Slot
  Empty : Slot
  Holds : ℕ → Slot

-- file-scope objects by variable and list of indexes, those that are there, and locals by variable
pub record State : Type 0 where
  pub cells : Variable → List ℕ → Option ℕ
  pub locals : Variable → Slot

-- what one step writes: a local declared, or an object assigned (C11 6.7.9 and 6.5.16)
pub data Write : Type 0 where
  Declared : Variable → Option ℕ → Write
  Assigned : Variable → List ℕ → ℕ → Write

-- an element is named by its array and all its indexes (C11 6.5.2.1)
abbrev pub same_indexes : List ℕ → List ℕ → Bool
same_indexes is js = pointwise nat_eq is js

-- a local that holds this, or nothing
abbrev pub slot_of : Option ℕ → Slot
slot_of None = Empty
slot_of (Some v) = Holds v

-- an object that is there holds a new number
abbrev pub renewed : Option ℕ → ℕ → Option ℕ
renewed None v = None
renewed (Some old) v = Some v

-- a local stands anew
abbrev pub with_local : State → Variable → Slot → State
with_local s x slot = record { cells = s.cells; locals = λ y. if y == x then slot else s.locals y }

-- the cells after one of them was assigned
abbrev pub cells_after : (Variable → List ℕ → Option ℕ) → Variable → List ℕ → ℕ → Variable → List ℕ → Option ℕ
cells_after cells x is v y js = if (y == x) && same_indexes js is then renewed (cells y js) v else cells y js

-- the state after a cell was assigned
abbrev pub with_cell : State → Variable → List ℕ → ℕ → State
with_cell s x is v = record { cells = cells_after s.cells x is v; locals = s.locals }

-- an assignment goes to the local of that name where there is one, and else to the file-scope object (C11 6.2.1, 4)
abbrev pub assign_at : Slot → State → Variable → List ℕ → ℕ → State
assign_at Outside s x is v = with_cell s x is v
assign_at Empty s x is v = with_local s x (Holds v)
assign_at (Holds old) s x is v = with_local s x (Holds v)

-- the state after a write
abbrev pub written : State → Write → State
written s (Declared x value) = with_local s x (slot_of value)
written s (Assigned x is v) = assign_at (s.locals x) s x is v

-- the state overwritten by writes, in their order
abbrev pub overwritten : State → List Write → State
overwritten s [] = s
overwritten s (w ∷ ws) = overwritten (written s w) ws

-- a scalar has no indexes
abbrev pub no_indexes : List ℕ → Bool
no_indexes [] = true
no_indexes (i ∷ is) = false

-- a local hides the file-scope object of its number
abbrev pub look_in : Slot → State → Variable → List ℕ → Option ℕ
look_in Outside s x is = s.cells x is
look_in Empty s x is = None
look_in (Holds v) s x is = if no_indexes is then Some v else None

-- what an object holds, if it is there and holds a number
abbrev pub look : State → Variable → List ℕ → Option ℕ
look s x is = look_in (s.locals x) s x is

-- an object is there
abbrev pub is_there : Option ℕ → Bool
is_there None = false
is_there (Some v) = true

-- the same where a local stands, or none
abbrev pub is_object_in : Slot → State → Variable → List ℕ → Bool
is_object_in Outside s x is = is_there (s.cells x is)
is_object_in Empty s x is = no_indexes is
is_object_in (Holds v) s x is = no_indexes is

-- there is such an object, whether or not it holds a number
abbrev pub is_object : State → Variable → List ℕ → Bool
is_object s x is = is_object_in (s.locals x) s x is
