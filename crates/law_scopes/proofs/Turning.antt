-- A state in which the variables of loops hold the values of a turn is at that turn.
use Rattle.std.specs.Prelude.{ℕ, Bool, true, false, ◌≡◌, ◌==◌, ◌||◌, List, [], ◌∷◌, Option, Some, None}
use Rattle.std.specs.List.{list_any}
use Rattle.std.proofs.Common.{refl, sym, ap, ◌∙◌, cond, inl, inr}
use Rattle.std.proofs.lemmas.Bool.{eqb-true}
use Rattle.semantics.specs.Tree.{Variable}
use Rattle.semantics.specs.Meaning.State.{State, Slot, Outside, Empty, Holds}
use Rattle.semantics.specs.Loops.Nest.{Loop, Vector, at_value, at_vector, iterations}
use Rattle.semantics.specs.Theorems.{IsTurn}
use Rattle.law_commute.proofs.Lists.{Among, contains_among}
use Rattle.law_commute.proofs.Values.{first_of, second_of}
use Rattle.law_scopes.specs.Apart.{holds_number, hold_values, hold_some, StatesAtTurnsAreTurns}

held : (k : Slot) (v : ℕ) → holds_number k v ≡ true → k ≡ Holds v
held Outside v h = absurd cc
held Empty v h = absurd cc
held (Holds n) v h = ap Holds (eqb-true n v h)

-- a local that holds a number already
pub same_state : (s : State) (x : Variable) (v : ℕ) → s.locals x ≡ Holds v → at_value s x v ≡ s
same_state s x v h = λ i. record { cells = s.cells; locals = λ y. at y (y == x) refl i }
  where
    at : (y : Variable) (b : Bool) → (y == x) ≡ b → cond (y == x) (Holds v) (s.locals y) ≡ s.locals y
    at y true e = ap (λ c. cond c (Holds v) (s.locals y)) e ∙ sym (ap s.locals (eqb-true y x e) ∙ h)
    at y false e = ap (λ c. cond c (Holds v) (s.locals y)) e

pub same_vector : (ls : List Loop) (s : State) (u : Vector) → hold_values ls s u ≡ true → at_vector ls u s ≡ s
same_vector [] s [] h = refl
same_vector [] s (v ∷ vs) h = absurd cc
same_vector (l ∷ ls) s [] h = absurd cc
same_vector (l ∷ ls) s (v ∷ vs) h =
    let here = same_state s l.variable v (held (s.locals l.variable) v (first_of (holds_number (s.locals l.variable) v) (hold_values ls s vs) h)) in
    ap (at_vector ls vs) here ∙ same_vector ls s vs (second_of (holds_number (s.locals l.variable) v) (hold_values ls s vs) h)

record Found (ls : List Loop) (s : State) (us : List Vector) : Type 0 where
  turn : Vector
  among : Among us turn
  hold : hold_values ls s turn ≡ true

found : (ls : List Loop) (s : State) (us : List Vector) → list_any (hold_values ls s) us ≡ true → Found ls s us
found ls s [] h = absurd cc
found ls s (u ∷ us) h = at (hold_values ls s u) refl h (λ k. found ls s us k)
  where
    at : (b : Bool) → hold_values ls s u ≡ b → (b || list_any (hold_values ls s) us) ≡ true → (list_any (hold_values ls s) us ≡ true → Found ls s us) → Found ls s (u ∷ us)
    at true e k rest = record { turn = u; among = inl refl; hold = e }
    at false e k rest = let r = rest k in record { turn = r.turn; among = inr r.among; hold = r.hold }

pub at_turns : StatesAtTurnsAreTurns
at_turns ls s h = at (iterations ls s) refl h
  where
    at : (o : Option (List Vector)) → iterations ls s ≡ o → hold_some ls s o ≡ true → IsTurn ls s
    at None e k = absurd cc
    at (Some us) e k =
        let f = found ls s us k in
        record { turns = us; are = e; turn = f.turn; among = contains_among us f.turn f.among; is = sym (same_vector ls s f.turn f.hold) }
