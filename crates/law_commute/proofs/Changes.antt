-- What the writes of an iteration change of the state round the loop.
use Rattle.std.specs.Prelude.{ℕ, Bool, true, false, ◌≡◌, ◌==◌, ◌&&◌, ◌||◌, List, [], ◌∷◌, Option}
use Rattle.std.proofs.Common.{refl, sym, ap, ◌∙◌, subst, cond}
use Rattle.std.proofs.lemmas.Bool.{eqb-true}
use Rattle.std.specs.Cmp.Lexicographic.{same_text}
use Rattle.std.specs.List.{AllByRecursion as Each}
use Rattle.semantics.specs.Tree.{Variable, Stmt}
use Rattle.semantics.specs.Meaning.State.{State, Slot, Outside, Empty, Holds, Write, Declared, Assigned, slot_of, renewed, same_indexes, with_local, assign_at, written, overwritten}
use Rattle.semantics.specs.Meaning.Agrees.{visible_behind}
use Rattle.semantics.specs.Loops.Nest.{Loop, Vector}
use Rattle.semantics.specs.Loops.Access.{Writes, Element, Touches}
use Rattle.law_commute.specs.Commuting.{IsOwnWrite}
use Rattle.law_commute.proofs.Same.{apart}
use Rattle.law_commute.proofs.Values.{first_of, second_of}

-- what an element holds behind these writes
abbrev pub acted : Variable → List ℕ → List Write → Option ℕ → Option ℕ
acted y js [] c = c
acted y js (Declared x v ∷ ws) c = acted y js ws c
acted y js (Assigned x is v ∷ ws) c = acted y js ws (cond ((y == x) && same_indexes js is) (renewed c v) c)

-- some of the writes goes to it
abbrev pub hit : Variable → List ℕ → List Write → Bool
hit y js [] = false
hit y js (Declared x v ∷ ws) = hit y js ws
hit y js (Assigned x is v ∷ ws) = ((y == x) && same_indexes js is) || hit y js ws

pub not_hit : (y : Variable) (js : List ℕ) (ws : List Write) (c : Option ℕ) → hit y js ws ≡ false → acted y js ws c ≡ c
not_hit y js [] c h = refl
not_hit y js (Declared x v ∷ ws) c h = not_hit y js ws c h
not_hit y js (Assigned x is v ∷ ws) c h =
    ap (acted y js ws) (ap (λ b. cond b (renewed c v) c) (left ((y == x) && same_indexes js is) (hit y js ws) h))
    ∙ not_hit y js ws c (right ((y == x) && same_indexes js is) (hit y js ws) h)
  where
    left : (a b : Bool) → (a || b) ≡ false → a ≡ false
    left true b e = absurd cc
    left false b e = refl

    right : (a b : Bool) → (a || b) ≡ false → b ≡ false
    right true b e = absurd cc
    right false b e = e

module _ (loops : List Loop) (whole : Stmt) (outer : State) (u : Vector) where
  abbrev seen : Variable → Bool
  seen = visible_behind whole

  abbrev MyOwn : Write → Type 0
  MyOwn = IsOwnWrite loops whole outer u

  abbrev Wrote : Variable → ℕ → List ℕ → Type 0
  Wrote y j js = Touches loops whole outer u (record { array = y; indexes = j ∷ js }) Writes

  -- a write that hits an element touches it
  pub hit_touches : (y : Variable) (j : ℕ) (js : List ℕ) (ws : List Write) → Each MyOwn ws → hit y (j ∷ js) ws ≡ true → Wrote y j js
  hit_touches y j js [] own h = absurd cc
  hit_touches y j js (Declared x v ∷ ws) own h = hit_touches y j js ws own.1 h
  hit_touches y j js (Assigned x [] v ∷ ws) own h = at (y == x) h (λ k. hit_touches y j js ws own.1 k)
    where
      at : (b : Bool) → ((b && same_indexes (j ∷ js) []) || hit y (j ∷ js) ws) ≡ true → (hit y (j ∷ js) ws ≡ true → Wrote y j js) → Wrote y j js
      at true k rest = rest k
      at false k rest = rest k
  hit_touches y j js (Assigned x (i ∷ is) v ∷ ws) own h = at ((y == x) && same_indexes (j ∷ js) (i ∷ is)) refl h (λ k. hit_touches y j js ws own.1 k)
    where
      at : (b : Bool) → ((y == x) && same_indexes (j ∷ js) (i ∷ is)) ≡ b → (b || hit y (j ∷ js) ws) ≡ true → (hit y (j ∷ js) ws ≡ true → Wrote y j js) → Wrote y j js
      at true e k rest =
          let array : y ≡ x = eqb-true y x (first_of (y == x) (same_indexes (j ∷ js) (i ∷ is)) e) in
          let indexes : (j ∷ js) ≡ (i ∷ is) = same_text (j ∷ js) (i ∷ is) (sym (second_of (y == x) (same_indexes (j ∷ js) (i ∷ is)) e)) in
          let element : ◌≡◌ {A = Element} (record { array = x; indexes = i ∷ is }) (record { array = y; indexes = j ∷ js }) = λ k. record { array = sym array k; indexes = sym indexes k } in
          subst (λ (el : Element). Touches loops whole outer u el Writes) element own.0.2
      at false e k rest = rest k

  -- what is declared outside of the body is as it was
  pub record Alike (s : State) : Type 0 where
    pub locals : (y : Variable) → seen y ≡ true → s.locals y ≡ outer.locals y
    pub scalars : (y : Variable) → seen y ≡ true → s.cells y [] ≡ outer.cells y []

  -- after a write too, and elements change as it says
  pub record Changed (ws : List Write) (s t : State) : Type 0 where
    pub alike : Alike t
    pub elements : (y : Variable) (j : ℕ) (js : List ℕ) → t.cells y (j ∷ js) ≡ acted y (j ∷ js) ws (s.cells y (j ∷ js))

  set_local : (s : State) (x : Variable) (k : Slot) → seen x ≡ false → Alike s → Alike (with_local s x k)
  set_local s x k h a = record { locals = λ y e. ap (λ b. cond b k (s.locals y)) (apart seen x y h e) ∙ a.locals y e; scalars = a.scalars }

  no_element : (y x : Variable) (j : ℕ) (js : List ℕ) (v : ℕ) (c : Option ℕ) → c ≡ cond ((y == x) && same_indexes (j ∷ js) []) (renewed c v) c
  no_element y x j js v c = at (y == x)
    where
      at : (b : Bool) → c ≡ cond (b && same_indexes (j ∷ js) []) (renewed c v) c
      at true = refl
      at false = refl

  changed_by : (w : Write) (s : State) → MyOwn w → Alike s → Changed (w ∷ []) s (written s w)
  changed_by (Declared x v) s own a = record { alike = set_local s x (slot_of v) own a; elements = λ y j js. refl }
  changed_by (Assigned x [] v) s own a = at (s.locals x)
    where
      at : (k : Slot) → Changed (Assigned x [] v ∷ []) s (assign_at k s x [] v)
      at Outside = record {
        alike = record { locals = a.locals; scalars = λ y e. ap (λ b. cond (b && same_indexes [] []) (renewed (s.cells y []) v) (s.cells y [])) (apart seen x y own e) ∙ a.scalars y e };
        elements = λ y j js. refl;
      }
      at Empty = record { alike = set_local s x (Holds v) own a; elements = λ y j js. no_element y x j js v (s.cells y (j ∷ js)) }
      at (Holds n) = record { alike = set_local s x (Holds v) own a; elements = λ y j js. no_element y x j js v (s.cells y (j ∷ js)) }
  changed_by (Assigned x (i ∷ is) v) s own a =
      subst (λ (k : Slot). Changed (Assigned x (i ∷ is) v ∷ []) s (assign_at k s x (i ∷ is) v)) (sym (a.locals x own.0 ∙ own.1))
      (record {
        alike = record { locals = a.locals; scalars = λ y e. no_scalar y (y == x) ∙ a.scalars y e };
        elements = λ y j js. refl;
      })
    where
      no_scalar : (y : Variable) (b : Bool) → cond (b && same_indexes [] (i ∷ is)) (renewed (s.cells y []) v) (s.cells y []) ≡ s.cells y []
      no_scalar y true = refl
      no_scalar y false = refl

  acted-cons : (y : Variable) (js : List ℕ) (w : Write) (ws : List Write) (c : Option ℕ) → acted y js ws (acted y js (w ∷ []) c) ≡ acted y js (w ∷ ws) c
  acted-cons y js (Declared x v) ws c = refl
  acted-cons y js (Assigned x is v) ws c = refl

  -- after all of an iteration's writes
  pub changed_all : (ws : List Write) (s : State) → Each MyOwn ws → Alike s → Changed ws s (overwritten s ws)
  changed_all [] s own a = record { alike = a; elements = λ y j js. refl }
  changed_all (w ∷ ws) s own a =
      let one = changed_by w s own.0 a in
      let rest = changed_all ws (written s w) own.1 one.alike in
      record {
        alike = rest.alike;
        elements = λ y j js. rest.elements y j js ∙ ap (acted y (j ∷ js) ws) (one.elements y j js) ∙ acted-cons y (j ∷ js) w ws (s.cells y (j ∷ js));
      }
