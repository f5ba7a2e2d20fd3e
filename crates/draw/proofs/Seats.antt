-- The seats that are made, and what those that come back tell.
use Rattle.std.proofs.Common.{◌≡◌, ℕ, ◌<◌, Bool, true, false, ◌||◌, if◌then◌else◌, List, [], ◌∷◌, ◌++◌, length, sum_by, All, get_or, sym, ap, refl, subst, ◌∙◌, arith, length-append, append-nil}
use Rattle.std.specs.List.{list_any}
use Rattle.std.proofs.lemmas.Grind.{flat_map-append}
use Rattle.std.proofs.Math.Seq.{get_or-append_seam}
use Rattle.std.proofs.lemmas.List.Folds.{list_any-append, list_any-from_Any}
use Rattle.std.proofs.lemmas.List.Sums.{sum_by-cons}
use mathlib.Core.Option.{some}
use lib.ListN.{get_elem?}
use Rattle.atomic_table.specs.Seated.{TableId}
use Rattle.atomic_table.specs.Table.{State, Me}
use Rattle.semantics.specs.Loops.Arrangement.{times}
use Rattle.draw.specs.declared.rule.Size.{Size}
use Rattle.draw.specs.declared.rule.View.{View}
use Rattle.draw.specs.Tickets.{DrawingName, SeatState, SomeEnded, Together, all_tickets, fresh}
use Rattle.draw.specs.Rule.{Dealt, idle}
use Rattle.draw.proofs.Keeps.{sees_all}

abbrev pub weight : Bool → ℕ
weight b = if b then 1 else 0

-- how many of the seats met the end
abbrev pub ends_of : List SeatState → ℕ
ends_of seats = sum_by (λ s. weight s.ended) seats

abbrev pub any_ended : List SeatState → Bool
any_ended seats = list_any (λ s. s.ended) seats

-- the first seat of the table has these parts left, and the others went to the seats that were made
pub record Made (name : DrawingName) (left : ℕ) (of_seat : TableId) (me : Me (Unit {0}) View) (seats : List SeatState) : Type 0 where
  pub table_is : of_seat ≡ name.table
  pub parts : me ≡ (record (idle (record { count = name.count; seats = name.seats })) { parts = left }, [])
  pub each : All (λ s. s ≡ fresh name) seats

-- what a seat of the table knows that took in these seats, and whether one of them met the end
pub record Gathered (table of_seat : TableId) (me : Me (Unit {0}) View) (met_end : Bool) (taken : List SeatState) : Type 0 where
  pub table_is : of_seat ≡ table
  pub no_slot : me.1 ≡ []
  pub parts : me.0.parts ≡ length taken
  pub tickets : me.0.tickets ≡ all_tickets taken
  pub ends : me.0.ends ≡ ends_of taken
  pub met : met_end ≡ any_ended taken

pub member : (P : SeatState → Type 0) (ys zs rest xs : List SeatState) (x : SeatState) → ys ++ zs ≡ xs → zs ≡ x ∷ rest → All P xs → P x
member P ys zs rest xs x whole next all =
    let is : ys ++ x ∷ rest ≡ xs = ap (λ (k : List SeatState). ys ++ k) (sym next) ∙ whole in
    let here : P (get_or (ys ++ x ∷ rest) (length ys) x) = subst (λ (k : List SeatState). All P k) (sym is) all (length ys) x (omega (arith, length-append ys (x ∷ rest))) in
    subst P (get_or-append_seam ys x rest x) here

or_none : (a b : Bool) → (a || (b || false)) ≡ (a || b)
or_none true b = refl
or_none false true = refl
or_none false false = refl

pub all_tickets-snoc : (ys : List SeatState) (s : SeatState) → all_tickets (ys ++ s ∷ []) ≡ all_tickets ys ++ s.tickets
all_tickets-snoc ys s =
    flat_map-append (λ u. u.tickets) ys (s ∷ []) ∙ ap (λ (k : List ℕ). all_tickets ys ++ k) (append-nil s.tickets)

pub any_ended-snoc : (ys : List SeatState) (s : SeatState) → any_ended (ys ++ s ∷ []) ≡ (any_ended ys || s.ended)
any_ended-snoc ys s = list_any-append (λ u. u.ended) ys (s ∷ []) ∙ or_none (any_ended ys) s.ended

some_end : (seats : List SeatState) → any_ended seats ≡ true → 0 < ends_of seats
some_end [] h = absurd cc
some_end (s ∷ ss) h = one s.ended refl h (some_end ss)
  where
    one : (b : Bool) → s.ended ≡ b → (b || any_ended ss) ≡ true → (any_ended ss ≡ true → 0 < ends_of ss) → 0 < ends_of (s ∷ ss)
    one true e h later = let one_end = ap weight e in omega (arith, sum_by-cons (λ (u : SeatState). weight u.ended) s ss)
    one false e h later = let none_here = ap weight e in let more = later h in omega (arith, sum_by-cons (λ (u : SeatState). weight u.ended) s ss)

pub settles : (z : Size) (s : State (Unit {0}) View) (r : Dealt z s) (id : ℕ) (v : View) → get_elem? s.views id ≡ some v → v.parts ≡ z.seats
    → (seats : List SeatState) → v.tickets ≡ all_tickets seats → v.ends ≡ ends_of seats → Together z.count seats
settles z s r id v at every seats tickets ends =
    let t = sees_all z s r id v at every in
    record {
      drawn = r.counted.drawn;
      at_most = r.counted.at_most;
      each_once = λ x. ap (times x) (sym tickets) ∙ t.0 x;
      ended = λ h. let some_ended = some_end seats (list_any-from_Any (λ u. u.ended) seats h) in t.1 (omega arith);
    }

none_of : (xs : List SeatState) → length xs ≡ 0 → xs ≡ []
none_of [] e = refl
none_of (x ∷ xs) e = absurd (omega arith)

-- where none is left, those that were taken are all
pub all_taken : (ys rest xs : List SeatState) → ys ++ rest ≡ xs → length rest ≡ 0 → ys ≡ xs
all_taken ys rest xs whole none_left =
    sym (append-nil ys) ∙ (ap (λ (k : List SeatState). ys ++ k) (sym (none_of rest none_left)) ∙ whole)

-- where each of some seats met the end, one did
pub some_ended : (seats : List SeatState) → 0 < length seats → All (λ s. s.ended ≡ true) seats → SomeEnded seats
some_ended [] positive all = absurd (omega arith)
some_ended (s ∷ ss) positive all = (0, s, positive, refl, all 0 s positive)
