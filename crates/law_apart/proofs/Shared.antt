-- An effect on the objects at file scope and on some locals alone.
use Rattle.std.specs.Prelude.{ℕ, Bool, true, false, ◌≡◌, ◌==◌, ◌||◌, List, [], ◌∷◌, ◌++◌, flat_map, Option, Some, None}
use Rattle.std.proofs.Common.{refl, sym, ap, ◌∙◌, subst, cond}
use Rattle.std.proofs.lemmas.Bool.{eqb-true}
use Rattle.semantics.proofs.NestLaw.{local_same}
use Rattle.law_runs.proofs.Assigning.{swapped}
use Rattle.semantics.specs.Tree.{Variable}
use Rattle.semantics.specs.Meaning.State.{State, Slot, Outside, Empty, Holds, Write, assign_at, look, overwritten}
use Rattle.semantics.specs.Meaning.Agrees.{is_among}
use Rattle.semantics.specs.Loops.Piece.{is_outside}
use Rattle.law_commute.proofs.Framed.{true_not_false}
use Rattle.law_commute.proofs.Matched.{overwritten-append}
use Rattle.law_runs.proofs.Assigning.{other_local}
use Rattle.law_scopes.specs.Apart.{written_as, shared_write}
use Rattle.law_scopes.proofs.Shared.{or_left, or_right, shares}
use Rattle.law_apart.specs.Apart.{local_write, left_slot, EffectsAreLeftApart}

-- ---- locals

-- where the number is that of a local that stands
pub same_kind : (k : Slot) (o : Option ℕ) → is_outside (left_slot k o) ≡ is_outside k
same_kind Outside o = refl
same_kind Empty None = refl
same_kind Empty (Some v) = refl
same_kind (Holds n) None = refl
same_kind (Holds n) (Some v) = refl

twice : (k : Slot) (o : Option ℕ) → left_slot (left_slot k o) o ≡ left_slot k o
twice Outside o = refl
twice Empty None = refl
twice Empty (Some v) = refl
twice (Holds n) None = refl
twice (Holds n) (Some v) = refl

module _ (s after : State) where
  -- locals stand in the one where they stand in the other
  abbrev SameKinds : State → Type 0
  SameKinds m = (y : Variable) → is_outside (m.locals y) ≡ is_outside (s.locals y)

  record IsWritten (m m' : State) (x : Variable) : Type 0 where
    itself : m'.locals x ≡ left_slot (m.locals x) (look after x [])
    others : (y : Variable) → (y == x) ≡ false → m'.locals y ≡ m.locals y
    cells : (y : Variable) (js : List ℕ) → m'.cells y js ≡ m.cells y js

  one_written : (m : State) (x : Variable) → SameKinds m → IsWritten m (overwritten m (local_write s after x)) x
  one_written m x kinds = at (is_outside (s.locals x)) refl (look after x []) refl
    where
      unchanged : left_slot (m.locals x) (look after x []) ≡ m.locals x → IsWritten m m x
      unchanged e = record { itself = sym e; others = λ y f. refl; cells = λ y js. refl }

      outside : (k : Slot) → is_outside k ≡ true → (o : Option ℕ) → left_slot k o ≡ k
      outside Outside e o = refl
      outside Empty e o = absurd cc
      outside (Holds n) e o = absurd cc

      nothing : (k : Slot) → left_slot k None ≡ k
      nothing Outside = refl
      nothing Empty = refl
      nothing (Holds n) = refl

      put : (k : Slot) → m.locals x ≡ k → is_outside k ≡ false → (v : ℕ) → look after x [] ≡ Some v → IsWritten m (assign_at k m x [] v) x
      put Outside e f v g = absurd cc
      put Empty e f v g = record {
        itself = local_same m x (Holds v) ∙ sym (ap (λ l. left_slot l (look after x [])) e ∙ ap (left_slot Empty) g);
        others = λ y q. other_local m x (Holds v) y q;
        cells = λ y js. refl;
      }
      put (Holds n) e f v g = record {
        itself = local_same m x (Holds v) ∙ sym (ap (λ l. left_slot l (look after x [])) e ∙ ap (left_slot (Holds n)) g);
        others = λ y q. other_local m x (Holds v) y q;
        cells = λ y js. refl;
      }

      at : (b : Bool) → is_outside (s.locals x) ≡ b → (o : Option ℕ) → look after x [] ≡ o → IsWritten m (overwritten m (cond b [] (written_as x [] (look after x [])))) x
      at true e o g = unchanged (outside (m.locals x) (kinds x ∙ e) (look after x []))
      at false e None g = subst (λ q. IsWritten m (overwritten m (written_as x [] q)) x) (sym g) (unchanged (ap (left_slot (m.locals x)) g ∙ nothing (m.locals x)))
      at false e (Some v) g = subst (λ q. IsWritten m (overwritten m (written_as x [] q)) x) (sym g) (put (m.locals x) refl (kinds x ∙ e) v g)

  record AreWritten (m m' : State) (xs : List Variable) : Type 0 where
    among : (y : Variable) → is_among xs y ≡ true → m'.locals y ≡ left_slot (m.locals y) (look after y [])
    others : (y : Variable) → is_among xs y ≡ false → m'.locals y ≡ m.locals y
    cells : (y : Variable) (js : List ℕ) → m'.cells y js ≡ m.cells y js

  all_written : (xs : List Variable) (m : State) → SameKinds m → AreWritten m (overwritten m (flat_map (local_write s after) xs)) xs
  all_written [] m kinds = record { among = λ y h. absurd (true_not_false true refl (sym h)); others = λ y h. refl; cells = λ y js. refl }
  all_written (x ∷ xs) m kinds =
      subst (λ (u : State). AreWritten m u (x ∷ xs)) (sym (overwritten-append m (local_write s after x) (flat_map (local_write s after) xs)))
      (both (all_written xs (overwritten m (local_write s after x)) still))
    where
      first : IsWritten m (overwritten m (local_write s after x)) x
      first = one_written m x kinds

      here : (y : Variable) → (y == x) ≡ true → (overwritten m (local_write s after x)).locals y ≡ left_slot (m.locals y) (look after y [])
      here y e = ap (overwritten m (local_write s after x)).locals (eqb-true y x e) ∙ first.itself ∙ sym (ap (λ z. left_slot (m.locals z) (look after z [])) (eqb-true y x e))

      still : SameKinds (overwritten m (local_write s after x))
      still y = at (y == x) refl
        where
          at : (b : Bool) → (y == x) ≡ b → is_outside ((overwritten m (local_write s after x)).locals y) ≡ is_outside (s.locals y)
          at true e = ap is_outside (here y e) ∙ same_kind (m.locals y) (look after y []) ∙ kinds y
          at false e = ap is_outside (first.others y e) ∙ kinds y

      both : {u : State} → AreWritten (overwritten m (local_write s after x)) u xs → AreWritten m u (x ∷ xs)
      both {u} rest = record {
        among = λ y h. at y (y == x) refl (is_among xs y) refl h;
        others = λ y h. rest.others y (or_right (x == y) (is_among xs y) h) ∙ first.others y (swapped x y (or_left (x == y) (is_among xs y) h));
        cells = λ y js. rest.cells y js ∙ first.cells y js;
      }
        where
          slot : Variable → Slot → Slot
          slot y l = left_slot l (look after y [])

          at : (y : Variable) (b : Bool) → (y == x) ≡ b → (c : Bool) → is_among xs y ≡ c → ((x == y) || is_among xs y) ≡ true → u.locals y ≡ left_slot (m.locals y) (look after y [])
          at y true e true f h = rest.among y f ∙ ap (slot y) (here y e) ∙ twice (m.locals y) (look after y [])
          at y true e false f h = rest.others y f ∙ here y e
          at y false e true f h = rest.among y f ∙ ap (slot y) (first.others y e)
          at y false e false f h = absurd (true_not_false ((x == y) || is_among xs y) h (ap (λ d. d || is_among xs y) (swapped y x e) ∙ f))

-- a state that is left so
record IsLeft (xs : List Variable) (s after u : State) : Type 0 where
  others : (x : Variable) → is_among xs x ≡ false → u.locals x ≡ s.locals x
  locals : (x : Variable) → is_among xs x ≡ true → u.locals x ≡ left_slot (s.locals x) (look after x [])
  cells : (x : Variable) (is : List ℕ) → u.cells x is ≡ after.cells x is

-- what it writes to objects at file scope
abbrev shared : State → List Write → List Write
shared s ws = flat_map (shared_write s (overwritten s ws)) ws

both_left : (xs : List Variable) (s : State) (ws : List Write) → IsLeft xs s (overwritten s ws) (overwritten s (shared s ws ++ flat_map (local_write s (overwritten s ws)) xs))
both_left xs s ws =
    let after = overwritten s ws in
    let one = shares s (record { writes = ws; text = [] }) in
    let two = all_written s after xs (overwritten s (shared s ws)) (λ y. ap is_outside (one.locals y)) in
    subst (IsLeft xs s after) (sym (overwritten-append s (shared s ws) (flat_map (local_write s after) xs)))
    (record {
      others = λ y h. two.others y h ∙ one.locals y;
      locals = λ y h. two.among y h ∙ ap (λ l. left_slot l (look after y [])) (one.locals y);
      cells = λ y js. two.cells y js ∙ one.cells y js;
    })

pub left_apart : EffectsAreLeftApart
left_apart xs s e = let left = both_left xs s e.writes in record { others = left.others; locals = left.locals; cells = left.cells }
