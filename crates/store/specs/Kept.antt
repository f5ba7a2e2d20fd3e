-- What a store stands for.
use Rattle.std.specs.Prelude.{ℕ, ◌≡◌, if◌then◌else◌, List, [], ◌∷◌, ◌++◌, ◌+◌, ◌≤◌, zero, suc, take, drop, length, Option, Some, None, slice_get}
use Rattle.semantics.specs.Tree.{Variable}
use Rattle.semantics.specs.Meaning.State.{State, Slot, Write, Assigned, Outside}
use Rattle.semantics.specs.Meaning.Places.{within, place, size}

-- a file-scope variable as it is kept: the lengths of its dimensions, and its values row by row (C11 6.5.2.1, 3)
pub record Kept : Type 0 where
  pub lengths : List ℕ
  pub values : List ℕ

-- as many values as elements
pub record IsFilled (k : Kept) : Type 0 where
  pub count : length k.values ≡ size k.lengths

-- what an object holds, if it is there
abbrev pub cell_of : Option Kept → List ℕ → Option ℕ
cell_of None is = None
cell_of (Some k) is = if within k.lengths is then slice_get k.values (place k.lengths is) else None

-- the locals by their variables
abbrev pub Locals : Type 0
Locals = Variable → Slot

-- the state of the file-scope variables where these locals stand
abbrev pub state_with : List Kept → Locals → State
state_with ks locals = record { cells = λ x is. cell_of (slice_get ks x) is; locals = locals }

-- and where none stands
abbrev pub state_of : List Kept → State
state_of ks = state_with ks (λ x. Outside)

-- values with others written over them from a position on
abbrev pub overlaid : List ℕ → ℕ → List ℕ → List ℕ
overlaid old first new = take first old ++ (new ++ drop (first + length new) old)

-- a variable with values written over its own
abbrev pub rewritten : Kept → ℕ → List ℕ → Kept
rewritten k first new = record { lengths = k.lengths; values = overlaid k.values first new }

-- at this variable, if it is there
abbrev pub rewritten_at : List Kept → ℕ → ℕ → List ℕ → List Kept
rewritten_at [] x first new = []
rewritten_at (k ∷ ks) zero first new = rewritten k first new ∷ ks
rewritten_at (k ∷ ks) (suc x) first new = k ∷ rewritten_at ks x first new

-- a variable is there, and has room for so many values
abbrev pub HasRoom : Option Kept → ℕ → Type 0
HasRoom None n = ⊥
HasRoom (Some k) n = n ≤ length k.values

-- the writes of elements one behind another, of an array of one dimension
abbrev pub writes_from : Variable → ℕ → List ℕ → List Write
writes_from x first [] = []
writes_from x first (v ∷ vs) = Assigned x (first ∷ []) v ∷ writes_from x (suc first) vs

-- a variable is there, has one dimension, and reaches so far at least
abbrev pub Covers : ℕ → Option Kept → Type 0
Covers bound None = ⊥
Covers bound (Some k) = (n : ℕ) × (k.lengths ≡ n ∷ []) × (length k.values ≡ n) × (bound ≤ n)
