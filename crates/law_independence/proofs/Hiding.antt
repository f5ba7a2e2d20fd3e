-- A local hides the object of its number.
use Rattle.std.specs.Prelude.{ℕ, Bool, true, false, ◌≡◌, ◌==◌, ◌&&◌, List, [], ◌∷◌, Option, Some, None}
use Rattle.std.proofs.Common.{refl, ap, ◌∙◌, cond}
use Rattle.std.proofs.lemmas.Bool.{eqb-true}
use Rattle.semantics.specs.Tree.{Variable}
use Rattle.semantics.specs.Meaning.State.{State, Slot, Outside, Empty, Holds, Write, Declared, Assigned, slot_of, renewed, same_indexes, with_local, assign_at, written, overwritten}
use Rattle.semantics.specs.Loops.Piece.{is_outside}
use Rattle.law_commute.proofs.Framed.{true_not_false}

slot_inside : (o : Option ℕ) → is_outside (slot_of o) ≡ false
slot_inside None = refl
slot_inside (Some n) = refl

set_inside : (b : Bool) (k j : Slot) → is_outside k ≡ false → is_outside j ≡ false → is_outside (cond b k j) ≡ false
set_inside true k j e f = e
set_inside false k j e f = f

-- a local stays one
pub still_inside : (ws : List Write) (s : State) (y : Variable) → is_outside (s.locals y) ≡ false → is_outside ((overwritten s ws).locals y) ≡ false
still_inside [] s y h = h
still_inside (w ∷ ws) s y h = still_inside ws (written s w) y (one w)
  where
    one : (w : Write) → is_outside ((written s w).locals y) ≡ false
    one (Declared x v) = set_inside (y == x) (slot_of v) (s.locals y) (slot_inside v) h
    one (Assigned x is v) = at (s.locals x)
      where
        at : (k : Slot) → is_outside ((assign_at k s x is v).locals y) ≡ false
        at Outside = h
        at Empty = set_inside (y == x) (Holds v) (s.locals y) refl h
        at (Holds n) = set_inside (y == x) (Holds v) (s.locals y) refl h

-- so no write goes to that object
pub hidden : (ws : List Write) (s : State) (y : Variable) (js : List ℕ) → is_outside (s.locals y) ≡ false → (overwritten s ws).cells y js ≡ s.cells y js
hidden [] s y js h = refl
hidden (Declared x v ∷ ws) s y js h = hidden ws (with_local s x (slot_of v)) y js (still_inside (Declared x v ∷ []) s y h)
hidden (Assigned x is v ∷ ws) s y js h = hidden ws (assign_at (s.locals x) s x is v) y js (still_inside (Assigned x is v ∷ []) s y h) ∙ at (s.locals x) refl
  where
    apart : s.locals x ≡ Outside → ((y == x) && same_indexes js is) ≡ false
    apart e = go (y == x) refl
      where
        go : (b : Bool) → (y == x) ≡ b → (b && same_indexes js is) ≡ false
        go true q = absurd (true_not_false (is_outside (s.locals y)) (ap is_outside (ap s.locals (eqb-true y x q) ∙ e)) h)
        go false q = refl

    at : (k : Slot) → s.locals x ≡ k → (assign_at k s x is v).cells y js ≡ s.cells y js
    at Outside e = ap (λ b. cond b (renewed (s.cells y js) v) (s.cells y js)) (apart e)
    at Empty e = refl
    at (Holds n) e = refl
