-- The rule of the ticket word. The word is the number of tickets drawn and of the times that seats met the end.
use Rattle.std.specs.Prelude.{◌≡◌, ℕ, ◌+◌, ◌-◌, ◌^◌, ◌<◌, ◌≤◌, List, [], ◌∷◌, ◌++◌, length, slice_index, sum_by, Option, Some, None}
use mathlib.Core.Option.{some}
use lib.ListN.{get_elem?}
use Rattle.atomic_table.specs.Table.{State, Me, Step}
use Rattle.semantics.specs.Loops.Arrangement.{times, once_below}
use Rattle.semantics.specs.Teams.Machine.{ticket_of}
use Rattle.draw.specs.declared.rule.Size.{Size}
use Rattle.draw.specs.declared.rule.View.{View}
use Rattle.draw.specs.Tickets.{IsDraw}

-- a view with a part knows the size, met the end no more often than it has parts, and has tickets only with a part
pub record Fits (size : Size) (v : View) : Type 0 where
  pub size_is : 0 < v.parts → v.size ≡ size
  pub ends : v.ends ≤ v.parts
  pub idle : v.parts ≡ 0 → v.tickets ≡ []

-- the views have one part for each seat between them
pub record Seated (size : Size) (views : List View) : Type 0 where
  pub parts : sum_by (λ v. v.parts) views ≡ size.seats
  pub fits : (id : ℕ) (v : View) → get_elem? views id ≡ some v → Fits size v

-- the tickets below some number are drawn, each once; the word counts them and the ends that were met, and an end is met only where all are drawn
pub record Counted (size : Size) (word : ℕ) (views : List View) : Type 0 where
  pub drawn : ℕ
  pub at_most : drawn ≤ size.count
  pub word_is : word ≡ drawn + sum_by (λ v. v.ends) views
  pub ended : 0 < sum_by (λ v. v.ends) views → drawn ≡ size.count
  pub each_once : (x : ℕ) → sum_by (λ v. times x v.tickets) views ≡ once_below x drawn

-- there is one word, the ticket word
pub record Dealt (size : Size) (s : State (Unit {0}) View) : Type 0 where
  pub few_tickets : size.count ≤ 2 ^ 24
  pub few_seats : size.seats ≤ 65
  pub one_word : length s.words ≡ 1
  pub seated : Seated size s.views
  pub counted : Counted size (slice_index s.words 0) s.views

-- a view with no part, which has drawn nothing
abbrev pub idle : Size → View
idle size = record { size = size; parts = 0; tickets = []; ends = 0 }

-- a view that was joined into another
abbrev pub nobody : View
nobody = idle (record { count = 0; seats = 0 })

-- a view with a part less, and a new one that has it
abbrev pub with_part_less : View → View
with_part_less v = record v { parts = v.parts - 1 }

abbrev pub with_one_part : View → View
with_one_part v = record (idle v.size) { parts = 1 }

-- two views as one
abbrev pub joined : View → View → View
joined v w =
    record {
      size = w.size;
      parts = v.parts + w.parts;
      tickets = v.tickets ++ w.tickets;
      ends = v.ends + w.ends;
    }

-- a view after a draw: it has one ticket more, or it met the end once more
abbrev pub view_after : View → Option ℕ → View
view_after v None = record v { ends = v.ends + 1 }
view_after v (Some t) = record v { tickets = v.tickets ++ t ∷ [] }

-- what a draw tells a seat that found the word so: it has what the event machine gives there
abbrev pub TellsDraw : Step (Unit {0}) → Me (Unit {0}) View → ℕ → Me (Unit {0}) View → Type 0
TellsDraw step me found me' =
    (me' ≡ (view_after me.0 (ticket_of found me.0.size.count), me.1))
    × IsDraw me.0.size.count me.0.tickets (ticket_of found me.0.size.count) me'.0.tickets

-- a seat that enters has no part
abbrev pub TellsEntry : Step (Unit {0}) → Me (Unit {0}) View → ℕ → Me (Unit {0}) View → Type 0
TellsEntry step me found me' = me'.0 ≡ idle me.0.size
