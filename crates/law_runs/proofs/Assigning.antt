-- Assignments, and what they leave as it was.
use Rattle.std.specs.Prelude.{ℕ, true, false, ◌≡◌, ◌==◌, List, Option, Some, None}
use Rattle.std.proofs.Common.{refl, sym, ap, ◌∙◌, cond}
use Rattle.std.proofs.lemmas.Bool.{eqb-false, ne_eqb}
use Rattle.semantics.specs.Tree.{Variable, Declaration}
use Rattle.semantics.specs.Meaning.State.{State, Slot, Outside, Empty, Holds, Assigned, with_local, assign_at, written, is_object}
use Rattle.semantics.specs.Meaning.Runs.{one_write, assigned}
use Rattle.semantics.specs.Meaning.Definite.{DefinitelyAssigned, known_with}
use Rattle.law_runs.proofs.Going.{Later, Ran, ran_same, ran_write, HoldsKnown, known_less, known_with_less, IsUsable, assigned_later, assigned_known}
use Rattle.law_runs.proofs.Values.{IsGood}

pub good_later : (ds : List Declaration) (s t : State) → Later ds s t → IsGood ds s → IsGood ds t
good_later ds s t l good =
    record { cells = λ x is. l.cells x is ∙ good.cells x is; outside = λ x lt. l.outside x lt (good.outside x lt) }

-- an assignment to an object that is there
pub assigned_ran : (ds : List Declaration) (Q : State → Type 0) (s : State) (x : Variable) (o : Option (List ℕ)) (p : Option ℕ) (js : List ℕ) (v : ℕ)
    → o ≡ Some js → p ≡ Some v → is_object s x js ≡ true → Q (written s (Assigned x js v)) → Ran ds Q s (assigned s x o p)
assigned_ran ds Q s x o p js v e f there q =
    ran_same
    (ap (λ a. assigned s x a p) e ∙ ap (assigned s x (Some js)) f ∙ ap (λ b. cond b (Some (one_write (Assigned x js v))) None) there)
    (ran_write ds Q s (Assigned x js v) (assigned_later ds s x js v) q)

-- what was known is known behind an assignment
pub still_known : (ds : List Declaration) (s : State) (x : Variable) (js : List ℕ) (v : ℕ) (k : DefinitelyAssigned) → IsUsable ds s x → HoldsKnown ds k s → HoldsKnown ds k (written s (Assigned x js v))
still_known ds s x js v k usable known =
    known_less ds (known_with k x true) k (written s (Assigned x js v)) (known_with_less k x) (assigned_known ds s x js v k usable known)

-- another variable's number is another
pub swapped : (x y : ℕ) → (x == y) ≡ false → (y == x) ≡ false
swapped x y h = ne_eqb y x (λ e. eqb-false x y h (sym e))

-- another local is as it was
pub other_local : (s : State) (x : Variable) (slot : Slot) (y : Variable) → (y == x) ≡ false → (with_local s x slot).locals y ≡ s.locals y
other_local s x slot y e = ap (λ b. cond b slot (s.locals y)) e

-- behind an assignment too
pub other_assigned : (s : State) (x : Variable) (js : List ℕ) (v : ℕ) (y : Variable) → (y == x) ≡ false → (written s (Assigned x js v)).locals y ≡ s.locals y
other_assigned s x js v y e = go (s.locals x)
  where
    go : (slot : Slot) → (assign_at slot s x js v).locals y ≡ s.locals y
    go Outside = refl
    go Empty = other_local s x (Holds v) y e
    go (Holds old) = other_local s x (Holds v) y e
