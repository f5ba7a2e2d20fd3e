-- Effects on the objects at file scope alone, and states at a turn of loops. (C11 6.2.1 and 6.2.4; OpenMP 5.2, 4.4.2)
use Rattle.std.specs.Prelude.{ℕ, Bool, true, false, ◌≡◌, ◌==◌, ◌&&◌, if◌then◌else◌, List, [], ◌∷◌, flat_map, Option, Some, None}
use Rattle.std.specs.List.{list_any}
use Rattle.semantics.specs.Tree.{Variable}
use Rattle.semantics.specs.Meaning.State.{State, Slot, Outside, Empty, Holds, Write, Declared, Assigned, overwritten}
use Rattle.semantics.specs.Meaning.Runs.{Effect}
use Rattle.semantics.specs.Loops.Nest.{Loop, Vector, iterations}
use Rattle.semantics.specs.Loops.Piece.{is_outside}
use Rattle.semantics.specs.Theorems.{IsTurn}

-- an object is written with what it holds, if it is there
abbrev pub written_as : Variable → List ℕ → Option ℕ → List Write
written_as x is None = []
written_as x is (Some v) = Assigned x is v ∷ []

-- a write to an object for which no local stands, with what it holds in the end
abbrev pub shared_write : State → State → Write → List Write
shared_write s after (Declared x v) = []
shared_write s after (Assigned x is v) = if is_outside (s.locals x) then written_as x is (after.cells x is) else []

-- an effect on the objects at file scope alone
abbrev pub shared_effect : State → Effect → Effect
shared_effect s e = record { writes = flat_map (shared_write s (overwritten s e.writes)) e.writes; text = e.text }

-- it leaves the locals as they were, and these objects as the whole effect does
pub record SharesTheObjects (s : State) (e : Effect) : Type 0 where
  pub locals : (x : Variable) → (overwritten s (shared_effect s e).writes).locals x ≡ s.locals x
  pub cells : (x : Variable) (is : List ℕ) → (overwritten s (shared_effect s e).writes).cells x is ≡ (overwritten s e.writes).cells x is

abbrev pub SharedEffectsLeaveTheObjects : Type 0
SharedEffectsLeaveTheObjects = (s : State) (e : Effect) → SharesTheObjects s e

-- a local holds this number
abbrev pub holds_number : Slot → ℕ → Bool
holds_number Outside v = false
holds_number Empty v = false
holds_number (Holds n) v = n == v

-- the variables of loops hold these values
abbrev pub hold_values : List Loop → State → Vector → Bool
hold_values [] s [] = true
hold_values [] s (v ∷ vs) = false
hold_values (l ∷ ls) s [] = false
hold_values (l ∷ ls) s (v ∷ vs) = holds_number (s.locals l.variable) v && hold_values ls s vs

-- those of one of these turns, if there are any
abbrev pub hold_some : List Loop → State → Option (List Vector) → Bool
hold_some ls s None = false
hold_some ls s (Some us) = list_any (hold_values ls s) us

-- a state is at a turn of loops inside each other
abbrev pub is_at_turn : List Loop → State → Bool
is_at_turn ls s = hold_some ls s (iterations ls s)

abbrev pub StatesAtTurnsAreTurns : Type 0
StatesAtTurnsAreTurns = (ls : List Loop) (s : State) → is_at_turn ls s ≡ true → IsTurn ls s
