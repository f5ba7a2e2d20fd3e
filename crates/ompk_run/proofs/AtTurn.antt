-- At a turn of serial loops their variables hold numbers.
use Rattle.std.specs.Prelude.{ℕ, Bool, true, false, ◌≡◌, ◌||◌, ◌&&◌, List, [], ◌∷◌, map, Contains, Option, Some, None}
use Rattle.std.specs.List.{list_any, AllByRecursion}
use Rattle.std.proofs.Common.{refl}
use Rattle.std.proofs.lemmas.List.Elements.{All-contains, All-from_recursion}
use Rattle.semantics.specs.Tree.{Variable}
use Rattle.semantics.specs.Meaning.State.{State, Slot, Outside, Empty, Holds}
use Rattle.semantics.specs.Loops.Nest.{Loop, Vector, iterations}
use Rattle.law_scopes.specs.Apart.{holds_number, hold_values, hold_some, is_at_turn}

-- a local holds some number
abbrev HoldsSome : State → Variable → Type 0
HoldsSome s x = (n : ℕ) × (s.locals x ≡ Holds n)

abbrev AllHold : State → List Loop → Type 0
AllHold s ls = AllByRecursion (HoldsSome s) (map (λ l. l.variable) ls)

-- so does each loop's variable at a turn
holds_some : (k : Slot) (v : ℕ) → holds_number k v ≡ true → (n : ℕ) × (k ≡ Holds n)
holds_some Outside v h = absurd cc
holds_some Empty v h = absurd cc
holds_some (Holds n) v h = (n, refl)

at_one : (s : State) (ls : List Loop) (u : Vector) → hold_values ls s u ≡ true → AllHold s ls
at_one s [] u h = tt
at_one s (l ∷ ls) [] h = absurd cc
at_one s (l ∷ ls) (v ∷ vs) h = go (holds_number (s.locals l.variable) v) refl h (λ k. at_one s ls vs k)
  where
    go : (b : Bool) → holds_number (s.locals l.variable) v ≡ b → (b && hold_values ls s vs) ≡ true → (hold_values ls s vs ≡ true → AllHold s ls) → AllHold s (l ∷ ls)
    go false e k rest = absurd cc
    go true e k rest = (holds_some (s.locals l.variable) v e, rest k)

at_some : (s : State) (ls : List Loop) (us : List Vector) → list_any (hold_values ls s) us ≡ true → AllHold s ls
at_some s ls [] h = absurd cc
at_some s ls (u ∷ us) h = go (hold_values ls s u) refl h (λ k. at_some s ls us k)
  where
    go : (b : Bool) → hold_values ls s u ≡ b → (b || list_any (hold_values ls s) us) ≡ true → (list_any (hold_values ls s) us ≡ true → AllHold s ls) → AllHold s ls
    go true e k rest = at_one s ls u e
    go false e k rest = rest k

pub at_turn : (s : State) (ls : List Loop) → is_at_turn ls s ≡ true → (x : Variable) → Contains (map (λ l. l.variable) ls) x → (n : ℕ) × (s.locals x ≡ Holds n)
at_turn s ls h x among = All-contains (HoldsSome s) (map (λ l. l.variable) ls) x (All-from_recursion (HoldsSome s) (map (λ l. l.variable) ls) (go (iterations ls s) h)) among
  where
    go : (o : Option (List Vector)) → hold_some ls s o ≡ true → AllHold s ls
    go None k = absurd cc
    go (Some us) k = at_some s ls us k
