-- What contracts see of a drawing and of its seats.
use Rattle.std.specs.Prelude.{◌≡◌, ℕ, ◌<◌, ◌≤◌, Bool, true, false, List, [], ◌∷◌, ◌++◌, flat_map, Option, Some, None, All, Any}
use Rattle.atomic_table.specs.Seated.{TableId}
use Rattle.semantics.specs.Loops.Arrangement.{EachOnceBelow}
use Rattle.semantics.specs.Teams.Machine.{ticket_of, next_after}

-- which drawing it is: its table, how many tickets it has, and how many seats were made
pub record DrawingName : Type 0 where
  pub table : TableId
  pub count : ℕ
  pub seats : ℕ

-- a seat of a drawing: the tickets that it drew, in order, and whether it met the end
pub record SeatState : Type 0 where
  pub of : DrawingName
  pub tickets : List ℕ
  pub ended : Bool

-- a seat that has drawn nothing
abbrev pub fresh : DrawingName → SeatState
fresh name = record { of = name; tickets = []; ended = false }

-- the seat after a draw: it has one ticket more, or it met the end
abbrev pub after_draw : SeatState → Option ℕ → SeatState
after_draw s None = record s { ended = true }
after_draw s (Some t) = record s { tickets = s.tickets ++ t ∷ [] }

-- the step of the event machine, where so many tickets are drawn: what it finds, and a seat's tickets before and after it
pub record IsDraw (count : ℕ) (before : List ℕ) (found : Option ℕ) (after : List ℕ) : Type 0 where
  pub next : ℕ
  pub at_most : next ≤ count
  pub above : All (λ t. t < next) before
  pub ticket : found ≡ ticket_of next count
  pub below : All (λ t. t < next_after next count) after

-- what the seats drew
abbrev pub all_tickets : List SeatState → List ℕ
all_tickets seats = flat_map (λ s. s.tickets) seats

-- one of the seats met the end
abbrev pub SomeEnded : List SeatState → Type 0
SomeEnded seats = Any (λ s. s.ended ≡ true) seats

-- of all seats: together they drew the tickets below some number, each once, and all tickets if one met the end
pub record Together (count : ℕ) (seats : List SeatState) : Type 0 where
  pub drawn : ℕ
  pub at_most : drawn ≤ count
  pub each_once : EachOnceBelow drawn (all_tickets seats)
  pub ended : SomeEnded seats → drawn ≡ count
