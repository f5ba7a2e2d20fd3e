-- States that are the same for an iteration, and what its writes change of them.
use Rattle.std.specs.Prelude.{ℕ, Bool, true, false, ◌≡◌, ◌==◌, ◌&&◌, ◌||◌, List, [], ◌∷◌}
use Rattle.std.proofs.Common.{refl, sym, ap, ◌∙◌, subst, cond}
use Rattle.std.proofs.lemmas.Bool.{eqb-true}
use Rattle.semantics.specs.Tree.{Variable}
use Rattle.semantics.specs.Meaning.State.{State, Slot, Outside, Empty, Holds, Assigned, renewed, same_indexes, with_local, with_cell, assign_at, written, look, look_in, is_object, is_object_in, is_there}
use Rattle.semantics.specs.Meaning.Agrees.{also}
use Rattle.semantics.specs.Loops.Nest.{at_value}
use Rattle.semantics.specs.Loops.Piece.{is_outside}

-- a scalar is the same in both
pub record SameVariable (x : Variable) (s t : State) : Type 0 where
  pub locals : s.locals x ≡ t.locals x
  pub cells : s.locals x ≡ Outside → s.cells x [] ≡ t.cells x []

pub look_same : (x : Variable) (s t : State) → SameVariable x s t → look s x [] ≡ look t x []
look_same x s t h = at (s.locals x) refl
  where
    middle : (k : Slot) → s.locals x ≡ k → look_in k s x [] ≡ look_in k t x []
    middle Outside e = h.cells e
    middle Empty e = refl
    middle (Holds v) e = refl

    at : (k : Slot) → s.locals x ≡ k → look s x [] ≡ look t x []
    at k e = ap (λ j. look_in j s x []) e ∙ middle k e ∙ ap (λ j. look_in j t x []) (sym e ∙ h.locals)

pub is_object_same : (x : Variable) (s t : State) → SameVariable x s t → is_object s x [] ≡ is_object t x []
is_object_same x s t h = at (s.locals x) refl
  where
    middle : (k : Slot) → s.locals x ≡ k → is_object_in k s x [] ≡ is_object_in k t x []
    middle Outside e = ap is_there (h.cells e)
    middle Empty e = refl
    middle (Holds v) e = refl

    at : (k : Slot) → s.locals x ≡ k → is_object s x [] ≡ is_object t x []
    at k e = ap (λ j. is_object_in j s x []) e ∙ middle k e ∙ ap (λ j. is_object_in j t x []) (sym e ∙ h.locals)

-- a local stands anew in both
pub same_set : (x y : Variable) (s t : State) (k : Slot) → is_outside k ≡ false → ((y == x) ≡ false → SameVariable y s t) → SameVariable y (with_local s x k) (with_local t x k)
same_set x y s t k up h = at (y == x) refl
  where
    at : (b : Bool) → (y == x) ≡ b → SameVariable y (with_local s x k) (with_local t x k)
    at true e = record {
      locals = ap (λ b. cond b k (s.locals y)) e ∙ sym (ap (λ b. cond b k (t.locals y)) e);
      cells = λ o. let is : k ≡ Outside = sym (ap (λ b. cond b k (s.locals y)) e) ∙ o in let q : true ≡ false = sym (ap is_outside is) ∙ up in absurd cc;
    }
    at false e = record {
      locals = ap (λ b. cond b k (s.locals y)) e ∙ (h e).locals ∙ sym (ap (λ b. cond b k (t.locals y)) e);
      cells = λ o. (h e).cells (sym (ap (λ b. cond b k (s.locals y)) e) ∙ o);
    }

-- or of another variable in one of them
pub same_apart : (x y : Variable) (s t : State) (k : Slot) → (y == x) ≡ false → SameVariable y s t → SameVariable y (with_local s x k) t
same_apart x y s t k e h = record {
  locals = ap (λ b. cond b k (s.locals y)) e ∙ h.locals;
  cells = λ o. h.cells (sym (ap (λ b. cond b k (s.locals y)) e) ∙ o);
}

pub same_unset : (x y : Variable) (s t : State) (k : Slot) → (y == x) ≡ false → SameVariable y s (with_local t x k) → SameVariable y s t
same_unset x y s t k e h = record { locals = h.locals ∙ ap (λ b. cond b k (t.locals y)) e; cells = h.cells }

-- a set of variables with one more
pub also_other : (V : Variable → Bool) (x y : Variable) → also V x y ≡ true → (y == x) ≡ false → V y ≡ true
also_other V x y h e = sym (ap (λ b. b || V y) e) ∙ h

pub also_more : (V : Variable → Bool) (x y : Variable) → V y ≡ true → also V x y ≡ true
also_more V x y h = at (y == x)
  where
    at : (b : Bool) → (b || V y) ≡ true
    at true = refl
    at false = h

pub apart : (V : Variable → Bool) (x y : Variable) → V x ≡ false → V y ≡ true → (y == x) ≡ false
apart V x y none h = at (y == x) refl
  where
    at : (b : Bool) → (y == x) ≡ b → (y == x) ≡ false
    at true e = let q : true ≡ false = sym h ∙ ap V (eqb-true y x e) ∙ none in absurd cc
    at false e = e

-- two states at one place of the body: fixed variables are those of the model, known ones are the same in both, and so are these elements
pub record Point (T : Variable → ℕ → List ℕ → Type 0) (fixed known : Variable → Bool) (m r r' : State) : Type 0 where
  pub one : (y : Variable) → fixed y ≡ true → SameVariable y r m
  pub two : (y : Variable) → fixed y ≡ true → SameVariable y r' m
  pub both : (y : Variable) → known y ≡ true → SameVariable y r r'
  pub elements : (y : Variable) (i : ℕ) (is : List ℕ) → T y i is → r.cells y (i ∷ is) ≡ r'.cells y (i ∷ is)

module _ (T : Variable → ℕ → List ℕ → Type 0) (F K : Variable → Bool) (m r r' : State) where
  -- less is known
  pub point_less : (K' : Variable → Bool) → ((y : Variable) → K' y ≡ true → K y ≡ true) → Point T F K m r r' → Point T F K' m r r'
  point_less K' less p = record { one = p.one; two = p.two; both = λ y h. p.both y (less y h); elements = p.elements }

  -- a local is declared
  pub point_declared : (x : Variable) (k : Slot) → is_outside k ≡ false → F x ≡ false → Point T F K m r r' → Point T F (also K x) m (with_local r x k) (with_local r' x k)
  point_declared x k up free p = record {
    one = λ y h. same_apart x y r m k (apart F x y free h) (p.one y h);
    two = λ y h. same_apart x y r' m k (apart F x y free h) (p.two y h);
    both = λ y h. same_set x y r r' k up (λ e. p.both y (also_other K x y h e));
    elements = p.elements;
  }

  -- a loop's variable is declared
  pub point_counted : (x : Variable) (v : ℕ) → Point T F K m r r' → Point T (also F x) (also K x) (at_value m x v) (with_local r x (Holds v)) (with_local r' x (Holds v))
  point_counted x v p = record {
    one = λ y h. same_set x y r m (Holds v) refl (λ e. p.one y (also_other F x y h e));
    two = λ y h. same_set x y r' m (Holds v) refl (λ e. p.two y (also_other F x y h e));
    both = λ y h. same_set x y r r' (Holds v) refl (λ e. p.both y (also_other K x y h e));
    elements = p.elements;
  }

  -- and stepped
  pub point_stepped : (x : Variable) (v w : ℕ) → Point T (also F x) (also K x) (at_value m x v) r r' → Point T (also F x) (also K x) (at_value m x w) (with_local r x (Holds w)) (with_local r' x (Holds w))
  point_stepped x v w p = record {
    one = λ y h. same_set x y r m (Holds w) refl (λ e. same_unset x y r m (Holds v) e (p.one y h));
    two = λ y h. same_set x y r' m (Holds w) refl (λ e. same_unset x y r' m (Holds v) e (p.two y h));
    both = λ y h. same_set x y r r' (Holds w) refl (λ e. p.both y h);
    elements = p.elements;
  }

  -- behind the loop
  pub point_behind : (x : Variable) (v : ℕ) → F x ≡ false → Point T (also F x) (also K x) (at_value m x v) r r' → Point T F K m r r'
  point_behind x v free p = record {
    one = λ y h. same_unset x y r m (Holds v) (apart F x y free h) (p.one y (also_more F x y h));
    two = λ y h. same_unset x y r' m (Holds v) (apart F x y free h) (p.two y (also_more F x y h));
    both = λ y h. p.both y (also_more K x y h);
    elements = p.elements;
  }

  -- a file-scope object is assigned
  pub point_cell : (x : Variable) (is : List ℕ) (v : ℕ) → ((y : Variable) → F y ≡ true → ((y == x) && same_indexes [] is) ≡ false) → Point T F K m r r' → Point T F K m (with_cell r x is v) (with_cell r' x is v)
  point_cell x is v other p = record {
    one = λ y h. record { locals = (p.one y h).locals; cells = λ o. kept r y h ∙ (p.one y h).cells o };
    two = λ y h. record { locals = (p.two y h).locals; cells = λ o. kept r' y h ∙ (p.two y h).cells o };
    both = λ y h. record { locals = (p.both y h).locals; cells = λ o. ap (λ c. cond ((y == x) && same_indexes [] is) (renewed c v) c) ((p.both y h).cells o) };
    elements = λ y j js h. ap (λ c. cond ((y == x) && same_indexes (j ∷ js) is) (renewed c v) c) (p.elements y j js h);
  }
    where
      kept : (s : State) (y : Variable) → F y ≡ true → (with_cell s x is v).cells y [] ≡ s.cells y []
      kept s y h = ap (λ b. cond b (renewed (s.cells y []) v) (s.cells y [])) (other y h)

  -- an element is
  pub point_element : (x : Variable) (i : ℕ) (is : List ℕ) (v : ℕ) → Point T F K m r r' → Point T F K m (with_cell r x (i ∷ is) v) (with_cell r' x (i ∷ is) v)
  point_element x i is v p = point_cell x (i ∷ is) v (λ y h. neither (y == x)) p
    where
      neither : (b : Bool) → (b && same_indexes [] (i ∷ is)) ≡ false
      neither true = refl
      neither false = refl

  -- a scalar is
  pub point_assigned : (x : Variable) (v : ℕ) → F x ≡ false → K x ≡ true → Point T F K m r r' → Point T F K m (written r (Assigned x [] v)) (written r' (Assigned x [] v))
  point_assigned x v free there p = at (r.locals x) refl
    where
      set : Point T F K m (with_local r x (Holds v)) (with_local r' x (Holds v))
      set = record {
        one = λ y h. same_apart x y r m (Holds v) (apart F x y free h) (p.one y h);
        two = λ y h. same_apart x y r' m (Holds v) (apart F x y free h) (p.two y h);
        both = λ y h. same_set x y r r' (Holds v) refl (λ e. p.both y h);
        elements = p.elements;
      }

      middle : (k : Slot) → Point T F K m (assign_at k r x [] v) (assign_at k r' x [] v)
      middle Outside = point_cell x [] v (λ y h. ap (λ b. b && same_indexes [] []) (apart F x y free h)) p
      middle Empty = set
      middle (Holds u) = set

      at : (k : Slot) → r.locals x ≡ k → Point T F K m (written r (Assigned x [] v)) (written r' (Assigned x [] v))
      at k e =
          subst (λ (j : Slot). Point T F K m (assign_at j r x [] v) (written r' (Assigned x [] v))) (sym e)
          (subst (λ (j : Slot). Point T F K m (assign_at k r x [] v) (assign_at j r' x [] v)) (sym e ∙ (p.both x there).locals) (middle k))
