-- What is the same of a variable in two states, and writes to one variable.
use Rattle.std.specs.Prelude.{ℕ, Bool, true, false, ◌≡◌, ◌==◌, ◌&&◌, List, [], Option, Some}
use Rattle.std.proofs.Common.{refl, sym, ap, ◌∙◌, cond}
use Rattle.std.proofs.lemmas.Bool.{true≢false, eqb-true, eq-eqb}
use Rattle.std.proofs.lemmas.Option.{none-some}
use Rattle.semantics.specs.Tree.{Variable}
use Rattle.semantics.specs.Meaning.State.{State, Slot, Outside, Empty, Holds, Declared, Assigned, renewed, same_indexes, slot_of, with_local, with_cell, assign_at, is_there, look, look_in, is_object, is_object_in, written}
use Rattle.semantics.specs.Loops.Piece.{is_outside}
use Rattle.semantics.proofs.NestLaw.{local_same}

-- ---- what is the same of a variable

pub apart_back : (x y : Variable) → (x == y) ≡ false → (y == x) ≡ false
apart_back x y e = at (y == x) refl
  where
    at : (c : Bool) → (y == x) ≡ c → (y == x) ≡ false
    at true f = absurd (true≢false (sym (eq-eqb x y (sym (eqb-true y x f))) ∙ e))
    at false f = f

pub look_of : (x : Variable) (s t : State) → s.locals x ≡ t.locals x → ((is : List ℕ) → s.cells x is ≡ t.cells x is) → (is : List ℕ) → look s x is ≡ look t x is
look_of x s t same cells is = ap (λ l. look_in l s x is) same ∙ at (t.locals x)
  where
    at : (l : Slot) → look_in l s x is ≡ look_in l t x is
    at Outside = cells is
    at Empty = refl
    at (Holds n) = refl

pub object_of : (x : Variable) (s t : State) → s.locals x ≡ t.locals x → ((is : List ℕ) → s.cells x is ≡ t.cells x is) → (is : List ℕ) → is_object s x is ≡ is_object t x is
object_of x s t same cells is = ap (λ l. is_object_in l s x is) same ∙ at (t.locals x)
  where
    at : (l : Slot) → is_object_in l s x is ≡ is_object_in l t x is
    at Outside = ap is_there (cells is)
    at Empty = refl
    at (Holds n) = refl

-- ---- writes to one variable

-- all but this one is as it was
pub record Only (x : Variable) (s s' : State) : Type 0 where
  pub locals : (y : Variable) → (y == x) ≡ false → s'.locals y ≡ s.locals y
  pub cells : (y : Variable) (is : List ℕ) → (y == x) ≡ false → s'.cells y is ≡ s.cells y is

only_local : (x : Variable) (k : Slot) (s : State) → Only x s (with_local s x k)
only_local x k s = record { locals = λ y h. ap (λ b. cond b k (s.locals y)) h; cells = λ y is h. refl }

only_cell : (x : Variable) (js : List ℕ) (n : ℕ) (s : State) → Only x s (with_cell s x js n)
only_cell x js n s = record { locals = λ y h. refl; cells = λ y is h. ap (λ b. cond (b && same_indexes is js) (renewed (s.cells y is) n) (s.cells y is)) h }

pub only_declared : (x : Variable) (v : Option ℕ) (s : State) → Only x s (written s (Declared x v))
only_declared x v s = only_local x (slot_of v) s

pub only_assigned : (x : Variable) (js : List ℕ) (n : ℕ) (s : State) → Only x s (written s (Assigned x js n))
only_assigned x js n s = at (s.locals x)
  where
    at : (l : Slot) → Only x s (assign_at l s x js n)
    at Outside = only_cell x js n s
    at Empty = only_local x (Holds n) s
    at (Holds m) = only_local x (Holds n) s

pub only_look : (x : Variable) (s s' : State) → Only x s s' → (y : Variable) → (y == x) ≡ false → (is : List ℕ) → look s' y is ≡ look s y is
only_look x s s' o y h is = look_of y s' s (o.locals y h) (λ js. o.cells y js h) is

-- an object that holds a number takes another
pub record Takes (s : State) (x : Variable) (n : ℕ) : Type 0 where
  pub there : is_object s x [] ≡ true
  pub holds : look (written s (Assigned x [] n)) x [] ≡ Some n

pub takes : (s : State) (x : Variable) (v n : ℕ) → look s x [] ≡ Some v → Takes s x n
takes s x v n h = record { there = there (s.locals x) h; holds = at (s.locals x) refl h }
  where
    there : (l : Slot) → look_in l s x [] ≡ Some v → is_object_in l s x [] ≡ true
    there Outside k = ap is_there k
    there Empty k = absurd (none-some v k)
    there (Holds m) k = refl

    itself : (x == x) ≡ true
    itself = eq-eqb x x refl

    at : (l : Slot) → s.locals x ≡ l → look_in l s x [] ≡ Some v → look (assign_at l s x [] n) x [] ≡ Some n
    at Outside e k =
        ap (λ q. look_in q (with_cell s x [] n) x []) e
        ∙ ap (λ b. cond (b && same_indexes [] []) (renewed (s.cells x []) n) (s.cells x [])) itself ∙ ap (λ o. renewed o n) k
    at Empty e k = absurd (none-some v k)
    at (Holds m) e k = ap (λ b. look_in (cond b (Holds n) (s.locals x)) (with_local s x (Holds n)) x []) itself

-- a local takes one, and stays a local
pub record Taken (t : State) (x : Variable) (n : ℕ) : Type 0 where
  pub there : is_object t x [] ≡ true
  pub holds : (written t (Assigned x [] n)).locals x ≡ Holds n

pub taken : (t : State) (x : Variable) (n : ℕ) → is_outside (t.locals x) ≡ false → Taken t x n
taken t x n h = record { there = there (t.locals x) h; holds = at (t.locals x) h }
  where
    there : (l : Slot) → is_outside l ≡ false → is_object_in l t x [] ≡ true
    there Outside k = absurd (true≢false k)
    there Empty k = refl
    there (Holds m) k = refl

    at : (l : Slot) → is_outside l ≡ false → (assign_at l t x [] n).locals x ≡ Holds n
    at Outside k = absurd (true≢false k)
    at Empty k = local_same t x (Holds n)
    at (Holds m) k = local_same t x (Holds n)
