-- What a statement does not declare keeps its kind: no local comes to stand there, and a local that holds a number goes on holding one.
use Rattle.std.specs.Prelude.{Bool, true, false, not, ◌≡◌, ◌==◌, ◌&&◌, List, [], ◌∷◌, ◌++◌, Some}
use Rattle.std.proofs.Common.{refl, sym, ap, ◌∙◌, cond}
use Rattle.std.proofs.lemmas.Bool.{true≢false, and_from, eqb-true}
use Rattle.semantics.specs.Tree.{Variable, Stmt}
use Rattle.semantics.specs.Meaning.State.{State, Slot, Outside, Empty, Holds, Write, Declared, Assigned, slot_of, with_local, assign_at, overwritten}
use Rattle.semantics.specs.Meaning.Runs.{Effect, run}
use Rattle.semantics.specs.Meaning.Agrees.{is_among, declared_in}
use Rattle.law_commute.proofs.Values.{first_of, second_of}
use Rattle.law_commute.proofs.Effects.{Composes, IfAny, run_holds}
use Rattle.law_private.proofs.Chunks.{not_true}
use Rattle.law_runs.proofs.Going.{stands, is_held}
use Rattle.law_runs.proofs.Assigning.{swapped, other_local}

module _ (x : Variable) where
  -- none of these writes declares it
  abbrev pub spares : List Write → Bool
  spares [] = true
  spares (Declared y v ∷ ws) = not (y == x) && spares ws
  spares (Assigned y is v ∷ ws) = spares ws

  spares-append : (ws vs : List Write) → spares ws ≡ true → spares vs ≡ true → spares (ws ++ vs) ≡ true
  spares-append [] vs h k = k
  spares-append (Declared y v ∷ ws) vs h k =
      and_from (not (y == x)) (spares (ws ++ vs)) (first_of (not (y == x)) (spares ws) h) (spares-append ws vs (second_of (not (y == x)) (spares ws) h) k)
  spares-append (Assigned y is v ∷ ws) vs h k = spares-append ws vs h k

  -- so an effect
  abbrev Spares : State → Effect → Type 0
  Spares s e = spares e.writes ≡ true

  sparing : Composes Spares
  sparing = record { none = λ s. refl; two = λ s d e. spares-append d.writes e.writes }

  pub run_spares : (a : Stmt) → is_among (declared_in a) x ≡ false → (s : State) → IfAny (Spares s) (run a s)
  run_spares = run_holds Spares sparing (λ s y is v. refl) (λ s t. refl) x (λ s y o other. ap (λ b. not b && true) other)

  -- no local comes to stand
  still_outside : (ws : List Write) (s : State) → spares ws ≡ true → s.locals x ≡ Outside → (overwritten s ws).locals x ≡ Outside
  still_outside [] s h out = out
  still_outside (Declared y v ∷ ws) s h out =
      still_outside ws (with_local s y (slot_of v)) (second_of (not (y == x)) (spares ws) h) (other_local s y (slot_of v) x (swapped y x (not_true (y == x) (first_of (not (y == x)) (spares ws) h))) ∙ out)
  still_outside (Assigned y is v ∷ ws) s h out = still_outside ws (assign_at (s.locals y) s y is v) h (at (s.locals y) refl)
    where
      other : (k : Slot) → s.locals y ≡ k → (k ≡ Outside → ⊥) → (b : Bool) → (x == y) ≡ b → cond b (Holds v) (s.locals x) ≡ Outside
      other k e apart' true f = absurd (apart' (sym e ∙ ap s.locals (sym (eqb-true x y f)) ∙ out))
      other k e apart' false f = out

      at : (k : Slot) → s.locals y ≡ k → (assign_at k s y is v).locals x ≡ Outside
      at Outside e = out
      at Empty e = other Empty e (λ q. let p : stands Empty ≡ stands Outside = ap stands q in absurd (true≢false p)) (x == y) refl
      at (Holds n) e = other (Holds n) e (λ q. let p : stands (Holds n) ≡ stands Outside = ap stands q in absurd (true≢false p)) (x == y) refl

  -- and one that holds a number holds one
  still_held : (ws : List Write) (s : State) → spares ws ≡ true → is_held (s.locals x) ≡ true → is_held ((overwritten s ws).locals x) ≡ true
  still_held [] s h held = held
  still_held (Declared y v ∷ ws) s h held =
      still_held ws (with_local s y (slot_of v)) (second_of (not (y == x)) (spares ws) h)
      (ap is_held (other_local s y (slot_of v) x (swapped y x (not_true (y == x) (first_of (not (y == x)) (spares ws) h)))) ∙ held)
  still_held (Assigned y is v ∷ ws) s h held = still_held ws (assign_at (s.locals y) s y is v) h (at (s.locals y))
    where
      set : (b : Bool) → is_held (cond b (Holds v) (s.locals x)) ≡ true
      set true = refl
      set false = held

      at : (k : Slot) → is_held ((assign_at k s y is v).locals x) ≡ true
      at Outside = held
      at Empty = set (x == y)
      at (Holds n) = set (x == y)

  module _ (a : Stmt) (none : is_among (declared_in a) x ≡ false) (s : State) (e : Effect) (ran : run a s ≡ Some e) where
    pub runs_outside : s.locals x ≡ Outside → (overwritten s e.writes).locals x ≡ Outside
    runs_outside out = still_outside e.writes s (run_spares a none s e ran) out

    pub runs_held : is_held (s.locals x) ≡ true → is_held ((overwritten s e.writes).locals x) ≡ true
    runs_held held = still_held e.writes s (run_spares a none s e ran) held
