-- A steady statement leaves what is fixed as it was.
use Rattle.std.specs.Prelude.{ℕ, Bool, true, false, ◌≡◌, ◌==◌, ◌&&◌, List, [], ◌∷◌, Option, Some}
use Rattle.std.proofs.Common.{refl, sym, ap, ◌∙◌, subst, cond}
use Rattle.std.proofs.lemmas.Bool.{true≢false}
use Rattle.std.proofs.lemmas.Option.{same_Some}
use Rattle.semantics.specs.Tree.{Variable, Exprs, no_exprs, more_exprs, Source, Increment, Up, Down, Set, Change, Stmt, Assign, Update, If, IfElse, For, Block, Print, Items, no_items, mark, local, stmt}
use Rattle.semantics.specs.Meaning.State.{State, Slot, Outside, Empty, Holds, Assigned, renewed, same_indexes, slot_of, with_local, assign_at, is_object, is_object_in, written, overwritten}
use Rattle.semantics.specs.Meaning.Value.{values, holds, source_value}
use Rattle.semantics.specs.Meaning.Runs.{Effect, nothing, one_write, declared, assigned, incremented, print_text, turns, greatest_trip_count, run, run_items}
use Rattle.semantics.specs.Meaning.Agrees.{also}
use Rattle.law_commute.specs.Steady.{IsFixedStep, IsSteadyTarget, IsSteady, AreSteady}
use Rattle.law_commute.proofs.Matched.{overwritten-append}
use Rattle.law_commute.proofs.Same.{SameVariable, same_apart, apart, also_more}
use Rattle.law_commute.proofs.Values.{not_no_indexes}
use Rattle.law_commute.proofs.Effects.{Composes, IfAny, nothing_holds, test_holds, steps_hold, turns_hold, assigned_holds, declared_holds, text_holds}
use Rattle.law_nests.proofs.Steadied.{SameFixed}

pub same_through : (y : Variable) (s t u : State) → SameVariable y s t → SameVariable y t u → SameVariable y s u
same_through y s t u one two = record { locals = one.locals ∙ two.locals; cells = λ o. one.cells o ∙ two.cells (sym one.locals ∙ o) }

pub same_back : (y : Variable) (s t : State) → SameVariable y s t → SameVariable y t s
same_back y s t h = record { locals = sym h.locals; cells = λ o. sym (h.cells (h.locals ∙ o)) }

module _ (F : Variable → Bool) where
  abbrev Keeps : State → Effect → Type 0
  Keeps s e = SameFixed F s (overwritten s e.writes)

  keeping : Composes Keeps
  keeping = record {
    none = λ s y h. record { locals = refl; cells = λ o. refl };
    two = λ s d e one two y h.
        subst (λ t. SameVariable y s t) (sym (overwritten-append s d.writes e.writes))
        (same_through y s (overwritten s d.writes) (overwritten (overwritten s d.writes) e.writes) (one y h) (two y h));
  }

  same_declared : (s : State) (x : Variable) (o : Option ℕ) → F x ≡ false → SameFixed F s (with_local s x (slot_of o))
  same_declared s x o free y h = same_back y (with_local s x (slot_of o)) s (same_apart x y s s (slot_of o) (apart F x y free h) (record { locals = refl; cells = λ o. refl }))

  keeps_declared : (s : State) (x : Variable) (start : Option Source) → F x ≡ false → IfAny (Keeps s) (declared s x start)
  keeps_declared s x start free = declared_holds Keeps keeping s x start (λ o. same_declared s x o free)

  same_scalar : (s : State) (x : Variable) (n : ℕ) → F x ≡ false → SameFixed F s (written s (Assigned x [] n))
  same_scalar s x n free y h = at (s.locals x)
    where
      other : (y == x) ≡ false
      other = apart F x y free h

      local_kept : SameVariable y s (with_local s x (Holds n))
      local_kept = same_declared s x (Some n) free y h

      at : (k : Slot) → SameVariable y s (assign_at k s x [] n)
      at Outside = record { locals = refl; cells = λ o. sym (ap (λ b. cond (b && same_indexes [] []) (renewed (s.cells y []) n) (s.cells y [])) other) }
      at Empty = local_kept
      at (Holds m) = local_kept

  same_element : (s : State) (x i : ℕ) (is : List ℕ) (n : ℕ) → is_object s x (i ∷ is) ≡ true → SameFixed F s (written s (Assigned x (i ∷ is) n))
  same_element s x i is n there y h = at (s.locals x) there
    where
      no_scalar : (b : Bool) → s.cells y [] ≡ cond (b && same_indexes [] (i ∷ is)) (renewed (s.cells y []) n) (s.cells y [])
      no_scalar true = refl
      no_scalar false = refl

      at : (k : Slot) → is_object_in k s x (i ∷ is) ≡ true → SameVariable y s (assign_at k s x (i ∷ is) n)
      at Outside j = record { locals = refl; cells = λ o. no_scalar (y == x) }
      at Empty j = absurd (true≢false (sym j))
      at (Holds m) j = absurd (true≢false (sym j))

  keeps_scalar : (s : State) (x : Variable) (o : Option ℕ) → F x ≡ false → IfAny (Keeps s) (assigned s x (Some []) o)
  keeps_scalar s x o free = assigned_holds Keeps keeping s x (Some []) o (λ ks n k there. subst (λ is. Keeps s (one_write (Assigned x is n))) (same_Some [] ks k) (same_scalar s x n free))

  keeps_element : (s : State) (x : Variable) (is : Option (List ℕ)) (o : Option ℕ) → (is ≡ Some [] → ⊥) → IfAny (Keeps s) (assigned s x is o)
  keeps_element s x is o some = assigned_holds Keeps keeping s x is o at
    where
      at : (ks : List ℕ) (n : ℕ) → is ≡ Some ks → is_object s x ks ≡ true → Keeps s (one_write (Assigned x ks n))
      at [] n k there = absurd (some k)
      at (k ∷ ks) n e there = same_element s x k ks n there

  keeps_target : (s : State) (x : Variable) (is : Exprs) (o : Option ℕ) → IsSteadyTarget F x is → IfAny (Keeps s) (assigned s x (values s is) o)
  keeps_target s x no_exprs o h = keeps_scalar s x o h
  keeps_target s x (more_exprs i is) o h = keeps_element s x (values s (more_exprs i is)) o (not_no_indexes s i is)

  keeps_step : (s : State) (x : Variable) (step : Increment) → F x ≡ false → IsFixedStep (also F x) x step → IfAny (Keeps s) (incremented s step)
  keeps_step s x (Up y) free h = keeps_scalar s y _ (ap F h ∙ free)
  keeps_step s x (Down y) free h = keeps_scalar s y _ (ap F h ∙ free)
  keeps_step s x (Set y e) free h = keeps_scalar s y _ (ap F h.0 ∙ free)
  keeps_step s x (Change y op e) free h = keeps_scalar s y _ (ap F h.0 ∙ free)

mutual
  pub steady_keeps : (F : Variable → Bool) (a : Stmt) → IsSteady F a → (s : State) → IfAny (Keeps F s) (run a s)
  steady_keeps F (Assign x is e) h s = keeps_target F s x is (source_value s e) h.0
  steady_keeps F (Update x is op e) h s = keeps_target F s x is _ h.0
  steady_keeps F (If c a) h s = test_holds (Keeps F) (keeping F) s (holds s c) (run a s) (Some nothing) (steady_keeps F a h.1 s) (nothing_holds (Keeps F) (keeping F) s)
  steady_keeps F (IfElse c a b) h s = test_holds (Keeps F) (keeping F) s (holds s c) (run a s) (run b s) (steady_keeps F a h.1 s) (steady_keeps F b h.2 s)
  steady_keeps F (For x name start test step body) h s =
      steps_hold (Keeps F) (keeping F) s (declared s x (Some start)) (turns greatest_trip_count (λ t. holds t test) (run body) (λ t. incremented t step)) (keeps_declared F s x (Some start) h.0)
      (turns_hold (Keeps F) (keeping F) test step (run body) (λ t. keeps_step F t x step h.0 h.3) (λ t e is y k. steady_keeps (also F x) body h.4 t e is y (also_more F x y k)) greatest_trip_count)
  steady_keeps F (Block items) h s = items_keep F items h s
  steady_keeps F (Print parts) h s = text_holds (Keeps F) (keeping F) s (print_text s parts) (λ t y k. record { locals = refl; cells = λ o. refl })

  items_keep : (F : Variable → Bool) (items : Items) → AreSteady F items → (s : State) → IfAny (Keeps F s) (run_items items s)
  items_keep F no_items h s = nothing_holds (Keeps F) (keeping F) s
  items_keep F (mark line rest) h s = items_keep F rest h s
  items_keep F (local x name start rest) h s = steps_hold (Keeps F) (keeping F) s (declared s x start) (run_items rest) (keeps_declared F s x start h.0) (items_keep F rest h.2)
  items_keep F (stmt a rest) h s = steps_hold (Keeps F) (keeping F) s (run a s) (run_items rest) (steady_keeps F a h.0 s) (items_keep F rest h.1)
