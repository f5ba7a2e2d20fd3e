-- What the rules derive, the function gives.
use Rattle.std.specs.Prelude.{ℕ, zero, suc, ◌≡◌, ◌≤◌, List, [], ◌∷◌, ◌++◌, Option, Some}
use Rattle.std.proofs.Common.{refl, ap, ◌∙◌, arith}
use Rattle.semantics.specs.Tree.{Cond, Increment, Stmt, Items}
use Rattle.semantics.specs.Meaning.State.{State, Write, Declared, overwritten}
use Rattle.semantics.specs.Meaning.Value.{holds, map_option}
use Rattle.semantics.specs.Meaning.Runs.{Effect, joined, then_from, declares, declared, incremented, turns, greatest_trip_count, run, run_items}
use Rattle.semantics.specs.Meaning.Steps.{effect, Steps, Turns, StepsItems, assigns, updates, if_holds, if_not, first, second, loops, block, prints, over, turn, over_items, passed, declares_one, does_one}

then_some : (s : State) (o : Option Effect) (next : State → Option Effect) (ws us : List Write) (t q : List ℕ) → o ≡ Some (effect ws t) → next (overwritten s ws) ≡ Some (effect us q) → then_from s o next ≡ Some (effect (ws ++ us) (t ++ q))
then_some s o next ws us t q e f = ap (λ p. then_from s p next) e ∙ ap (map_option (joined (effect ws t))) f

mutual
  -- the rules give what the function gives
  pub steps_run : {a : Stmt} {s : State} {ws : List Write} {t : List ℕ} → Steps a s ws t → run a s ≡ Some (effect ws t)
  steps_run (assigns f g h) = rw (f, g, h) refl
  steps_run (updates f) = f
  steps_run (if_holds f r) = rw f (steps_run r)
  steps_run (if_not f) = rw f refl
  steps_run (first f r) = rw f (steps_run r)
  steps_run (second f r) = rw f (steps_run r)
  steps_run (loops {x = x} {test = test} {step = step} {body = body} {s = s} {v = v} {ws = ws} {t = t} f le r) =
      then_some s _ (turns greatest_trip_count (λ u. holds u test) (run body) (λ u. incremented u step)) (Declared x (Some v) ∷ []) ws [] t (ap (declares x) f) (turns_run r greatest_trip_count le)
  steps_run (block r) = items_run r
  steps_run (prints f) = rw f refl

  -- so do the turns of a loop
  pub turns_run : {test : Cond} {step : Increment} {body : Stmt} {n : ℕ} {s : State} {ws : List Write} {t : List ℕ} → Turns test step body n s ws t → (m : ℕ) → n ≤ m → turns m (λ u. holds u test) (run body) (λ u. incremented u step) s ≡ Some (effect ws t)
  turns_run (over f) zero le = rw f refl
  turns_run (over f) (suc m) le = rw f refl
  turns_run (turn f r i k) zero le = absurd (omega arith)
  turns_run (turn {test = test} {step = step} {body = body} {s = s} {ws = ws} {us = us} {vs = vs} {t = t} {q = q} {r = r'} f r i k) (suc m) le =
      rw f (then_some s (run body s) (λ u. then_from u (incremented u step) (turns m (λ w. holds w test) (run body) (λ w. incremented w step))) ws (us ++ vs) t (q ++ r') (steps_run r)
      (then_some (overwritten s ws) (incremented (overwritten s ws) step) (turns m (λ w. holds w test) (run body) (λ w. incremented w step)) us vs q r' i (turns_run k m (omega arith))))

  -- and the items of a block
  pub items_run : {items : Items} {s : State} {ws : List Write} {t : List ℕ} → StepsItems items s ws t → run_items items s ≡ Some (effect ws t)
  items_run over_items = refl
  items_run (passed r) = items_run r
  items_run (declares_one {x = x} {e = e} {items = items} {s = s} {us = us} {ws = ws} {q = q} {t = t} f r) = then_some s (declared s x e) (run_items items) us ws q t f (items_run r)
  items_run (does_one {a = a} {items = items} {s = s} {us = us} {ws = ws} {q = q} {t = t} r k) = then_some s (run a s) (run_items items) us ws q t (steps_run r) (items_run k)
