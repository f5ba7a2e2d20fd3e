-- An effect on the objects at file scope alone.
use Rattle.std.specs.Prelude.{ℕ, Bool, true, false, ◌≡◌, ◌==◌, ◌&&◌, ◌||◌, List, [], ◌∷◌, flat_map, Option, Some, None}
use Rattle.std.specs.List.{AllByRecursion as Each}
use Rattle.std.specs.Cmp.Lexicographic.{same_text}
use Rattle.std.proofs.Common.{refl, sym, ap, ◌∙◌, cond}
use Rattle.std.proofs.lemmas.Bool.{eqb-true}
use Rattle.semantics.specs.Tree.{Variable}
use Rattle.semantics.specs.Meaning.State.{State, Slot, Outside, Empty, Holds, Write, Declared, Assigned, slot_of, renewed, same_indexes, with_local, assign_at, is_there, written, overwritten}
use Rattle.semantics.specs.Loops.Piece.{is_outside}
use Rattle.law_commute.proofs.Framed.{true_not_false}
use Rattle.law_commute.proofs.Lists.{each_join}
use Rattle.law_commute.proofs.Values.{first_of, second_of}
use Rattle.law_commute.proofs.Changes.{acted, hit}
use Rattle.law_commute.proofs.Joining.{acted-append, IsShared, shared_change}
use Rattle.law_independence.proofs.Hiding.{hidden}
use Rattle.law_scopes.specs.Apart.{written_as, shared_write, SharedEffectsLeaveTheObjects}

-- an object that is there stays there, and one that is not never is
renewed_there : (b : Bool) (c : Option ℕ) (v : ℕ) → is_there (cond b (renewed c v) c) ≡ is_there c
renewed_there false c v = refl
renewed_there true None v = refl
renewed_there true (Some old) v = refl

pub there_same : (ws : List Write) (s : State) (y : Variable) (js : List ℕ) → is_there ((overwritten s ws).cells y js) ≡ is_there (s.cells y js)
there_same [] s y js = refl
there_same (w ∷ ws) s y js = there_same ws (written s w) y js ∙ one w
  where
    one : (w : Write) → is_there ((written s w).cells y js) ≡ is_there (s.cells y js)
    one (Declared x v) = refl
    one (Assigned x is v) = at (s.locals x)
      where
        at : (k : Slot) → is_there ((assign_at k s x is v).cells y js) ≡ is_there (s.cells y js)
        at Outside = renewed_there ((y == x) && same_indexes js is) (s.cells y js) v
        at Empty = refl
        at (Holds n) = refl

-- an object to which no write goes is as it was
pub or_left : (a b : Bool) → (a || b) ≡ false → a ≡ false
or_left true b e = absurd cc
or_left false b e = refl

pub or_right : (a b : Bool) → (a || b) ≡ false → b ≡ false
or_right true b e = absurd cc
or_right false b e = e

unhit : (ws : List Write) (s : State) (y : Variable) (js : List ℕ) → hit y js ws ≡ false → (overwritten s ws).cells y js ≡ s.cells y js
unhit [] s y js h = refl
unhit (Declared x v ∷ ws) s y js h = unhit ws (with_local s x (slot_of v)) y js h
unhit (Assigned x is v ∷ ws) s y js h =
    unhit ws (assign_at (s.locals x) s x is v) y js (or_right ((y == x) && same_indexes js is) (hit y js ws) h) ∙ at (s.locals x)
  where
    at : (k : Slot) → (assign_at k s x is v).cells y js ≡ s.cells y js
    at Outside = ap (λ b. cond b (renewed (s.cells y js) v) (s.cells y js)) (or_left ((y == x) && same_indexes js is) (hit y js ws) h)
    at Empty = refl
    at (Holds n) = refl

module _ (s : State) (ws : List Write) where
  abbrev after : State
  after = overwritten s ws

  abbrev shared : List Write → List Write
  shared vs = flat_map (shared_write s after) vs

  -- they are shared writes
  own_shared : (w : Write) → Each (IsShared s) (shared_write s after w)
  own_shared (Declared x v) = tt
  own_shared (Assigned x is v) = at (is_outside (s.locals x)) refl (after.cells x is) refl
    where
      at : (b : Bool) → is_outside (s.locals x) ≡ b → (o : Option ℕ) → after.cells x is ≡ o → Each (IsShared s) (cond b (written_as x is o) [])
      at false e o f = tt
      at true e None f = tt
      at true e (Some n) f = (ap (λ b. b && is_there (s.cells x is)) e ∙ sym (there_same ws s x is) ∙ ap is_there f, tt)

  all_shared : (vs : List Write) → Each (IsShared s) (shared vs)
  all_shared [] = tt
  all_shared (w ∷ vs) = each_join (IsShared s) (shared_write s after w) (shared vs) (own_shared w) (all_shared vs)

  module _ (y : Variable) (js : List ℕ) where
    abbrev acts : List Write → Option ℕ → Option ℕ
    acts vs c = acted y js (shared vs) c

    on : (w : Write) (vs : List Write) (c : Option ℕ) → acts (w ∷ vs) c ≡ acts vs (acted y js (shared_write s after w) c)
    on w vs c = acted-append y js (shared_write s after w) (shared vs) c

    -- what one of them does to the object
    other_write : (x : Variable) (is : List ℕ) → ((y == x) && same_indexes js is) ≡ false → (b : Bool) (o : Option ℕ) (c : Option ℕ) → acted y js (cond b (written_as x is o) []) c ≡ c
    other_write x is e false o c = refl
    other_write x is e true None c = refl
    other_write x is e true (Some n) c = ap (λ b. cond b (renewed c n) c) e

    -- none goes to the object
    unhit_acts : (vs : List Write) (c : Option ℕ) → hit y js vs ≡ false → acts vs c ≡ c
    unhit_acts [] c h = refl
    unhit_acts (Declared x v ∷ vs) c h = unhit_acts vs c h
    unhit_acts (Assigned x is v ∷ vs) c h =
        on (Assigned x is v) vs c
        ∙ ap (acts vs) (other_write x is (or_left ((y == x) && same_indexes js is) (hit y js vs) h) (is_outside (s.locals x)) (after.cells x is) c)
        ∙ unhit_acts vs c (or_right ((y == x) && same_indexes js is) (hit y js vs) h)

    -- a local stands for it
    hidden_acts : (vs : List Write) (c : Option ℕ) → is_outside (s.locals y) ≡ false → acts vs c ≡ c
    hidden_acts [] c h = refl
    hidden_acts (Declared x v ∷ vs) c h = hidden_acts vs c h
    hidden_acts (Assigned x is v ∷ vs) c h = on (Assigned x is v) vs c ∙ ap (acts vs) (at (y == x) refl) ∙ hidden_acts vs c h
      where
        at : (b : Bool) → (y == x) ≡ b → acted y js (shared_write s after (Assigned x is v)) c ≡ c
        at true e = ap (λ b. acted y js (cond b (written_as x is (after.cells x is)) []) c) (sym (ap (λ z. is_outside (s.locals z)) (eqb-true y x e)) ∙ h)
        at false e = other_write x is (ap (λ b. b && same_indexes js is) e) (is_outside (s.locals x)) (after.cells x is) c

    -- it is not there in the end
    absent_acts : (vs : List Write) (c : Option ℕ) → after.cells y js ≡ None → acts vs c ≡ c
    absent_acts [] c h = refl
    absent_acts (Declared x v ∷ vs) c h = absent_acts vs c h
    absent_acts (Assigned x is v ∷ vs) c h = on (Assigned x is v) vs c ∙ ap (acts vs) (at ((y == x) && same_indexes js is) refl) ∙ absent_acts vs c h
      where
        none : (b : Bool) → acted y js (cond b (written_as x is None) []) c ≡ c
        none true = refl
        none false = refl

        at : (b : Bool) → ((y == x) && same_indexes js is) ≡ b → acted y js (shared_write s after (Assigned x is v)) c ≡ c
        at true e =
            let array : y ≡ x = eqb-true y x (first_of (y == x) (same_indexes js is) e) in
            let indexes : js ≡ is = same_text js is (sym (second_of (y == x) (same_indexes js is) e)) in
            ap (λ o. acted y js (cond (is_outside (s.locals x)) (written_as x is o) []) c) ((λ k. after.cells (sym array k) (sym indexes k)) ∙ h) ∙ none (is_outside (s.locals x))
        at false e = other_write x is e (is_outside (s.locals x)) (after.cells x is) c

    module _ (n : ℕ) (ends : after.cells y js ≡ Some n) (free : is_outside (s.locals y) ≡ true) where
      -- one that goes to it writes what it holds in the end
      own_write : (x : Variable) (is : List ℕ) (v : ℕ) (c : Option ℕ) → ((y == x) && same_indexes js is) ≡ true → is_there c ≡ true → acted y js (shared_write s after (Assigned x is v)) c ≡ Some n
      own_write x is v c e there =
          let array : y ≡ x = eqb-true y x (first_of (y == x) (same_indexes js is) e) in
          let indexes : js ≡ is = same_text js is (sym (second_of (y == x) (same_indexes js is) e)) in
          ap (λ b. acted y js (cond b (written_as x is (after.cells x is)) []) c) (sym (ap (λ z. is_outside (s.locals z)) array) ∙ free)
          ∙ ap (λ o. acted y js (written_as x is o) c) ((λ k. after.cells (sym array k) (sym indexes k)) ∙ ends)
          ∙ ap (λ b. cond b (renewed c n) c) e ∙ renew c there
        where
          renew : (c : Option ℕ) → is_there c ≡ true → renewed c n ≡ Some n
          renew None h = absurd cc
          renew (Some old) h = refl

      settled : (vs : List Write) → acts vs (Some n) ≡ Some n
      settled [] = refl
      settled (Declared x v ∷ vs) = settled vs
      settled (Assigned x is v ∷ vs) = on (Assigned x is v) vs (Some n) ∙ ap (acts vs) (at ((y == x) && same_indexes js is) refl) ∙ settled vs
        where
          at : (b : Bool) → ((y == x) && same_indexes js is) ≡ b → acted y js (shared_write s after (Assigned x is v)) (Some n) ≡ Some n
          at true e = own_write x is v (Some n) e refl
          at false e = other_write x is e (is_outside (s.locals x)) (after.cells x is) (Some n)

      hit_acts : (vs : List Write) (c : Option ℕ) → hit y js vs ≡ true → is_there c ≡ true → acts vs c ≡ Some n
      hit_acts [] c h there = absurd (true_not_false true refl (sym h))
      hit_acts (Declared x v ∷ vs) c h there = hit_acts vs c h there
      hit_acts (Assigned x is v ∷ vs) c h there = on (Assigned x is v) vs c ∙ at ((y == x) && same_indexes js is) refl h (λ k. hit_acts vs c k there)
        where
          at : (b : Bool) → ((y == x) && same_indexes js is) ≡ b → (b || hit y js vs) ≡ true → (hit y js vs ≡ true → acts vs c ≡ Some n) → acts vs (acted y js (shared_write s after (Assigned x is v)) c) ≡ Some n
          at true e k rest = ap (acts vs) (own_write x is v c e there) ∙ settled vs
          at false e k rest = ap (acts vs) (other_write x is e (is_outside (s.locals x)) (after.cells x is) c) ∙ rest k

    same_cells : acts ws (s.cells y js) ≡ after.cells y js
    same_cells = at (is_outside (s.locals y)) refl (after.cells y js) refl (hit y js ws) refl
      where
        none : (c : Option ℕ) → is_there c ≡ false → c ≡ None
        none None e = refl
        none (Some n) e = absurd (true_not_false true refl e)

        at : (b : Bool) → is_outside (s.locals y) ≡ b → (o : Option ℕ) → after.cells y js ≡ o → (h : Bool) → hit y js ws ≡ h → acts ws (s.cells y js) ≡ o
        at false e o f h g = hidden_acts ws (s.cells y js) e ∙ sym (hidden ws s y js e) ∙ f
        at true e None f h g = absent_acts ws (s.cells y js) f ∙ none (s.cells y js) (sym (there_same ws s y js) ∙ ap is_there f)
        at true e (Some n) f true g = hit_acts n f e ws (s.cells y js) g (sym (there_same ws s y js) ∙ ap is_there f)
        at true e (Some n) f false g = unhit_acts ws (s.cells y js) g ∙ sym (unhit ws s y js g) ∙ f

pub shares : SharedEffectsLeaveTheObjects
shares s e =
    let change = shared_change s (shared s e.writes e.writes) s (all_shared s e.writes e.writes) (λ x. refl) in
    record { locals = change.locals; cells = λ y js. change.cells y js ∙ same_cells s e.writes y js }
