-- A loop whose measure goes down with each turn has a run.
use Rattle.std.specs.Prelude.{ℕ, zero, suc, Bool, true, false, ◌≡◌, ◌≤◌, ◌<◌, List, Option, Some, None}
use Rattle.std.proofs.Common.{ap, arith}
use Rattle.semantics.specs.Tree.{Declaration}
use Rattle.semantics.specs.Meaning.State.{State}
use Rattle.semantics.specs.Meaning.Value.{by_test}
use Rattle.semantics.specs.Meaning.Runs.{Effect, nothing, then_from, turns}
use Rattle.law_runs.proofs.Going.{Ran, ran_nothing, ran_same, ran_then}

-- At: before a turn at this value; Turned: behind its body
module _ (ds : List Declaration) (test : State → Option Bool) (body step : State → Option Effect) (next left : ℕ → ℕ) (At Turned : ℕ → State → Type 0) (Q : State → Type 0)
    (answer : (v : ℕ) (t : State) → At v t → (b : Bool) × (test t ≡ Some b))
    (ends : (v : ℕ) (t : State) → At v t → Q t)
    (goes : (v : ℕ) (t : State) → At v t → test t ≡ Some true → (left (next v) < left v) × Ran ds (Turned v) t (body t))
    (steps : (v : ℕ) (t : State) → Turned v t → Ran ds (At (next v)) t (step t)) where
  -- the test fails
  stops : (n : ℕ) (t : State) → test t ≡ Some false → Q t → Ran ds Q t (turns n test body step t)
  stops zero t e q = ran_same (ap (λ o. by_test o None (Some nothing)) e) (ran_nothing ds Q t q)
  stops (suc n) t e q = ran_same (ap (λ o. by_test o (then_from t (body t) (λ u. then_from u (step u) (turns n test body step))) (Some nothing)) e) (ran_nothing ds Q t q)

  -- it holds, and the rest has a run
  one_turn : (n v : ℕ) (t : State) → At v t → test t ≡ Some true → ((u : State) → At (next v) u → Ran ds Q u (turns n test body step u)) → Ran ds Q t (turns (suc n) test body step t)
  one_turn n v t at e rest =
      ran_same (ap (λ o. by_test o (then_from t (body t) (λ u. then_from u (step u) (turns n test body step))) (Some nothing)) e)
      (ran_then (λ u. then_from u (step u) (turns n test body step)) (goes v t at e).1
      (λ u later turned. ran_then (turns n test body step) (steps v u turned) (λ w later' at'. rest w at')))

  -- as many turns as the measure are enough
  pub turns_ran : (n v : ℕ) (t : State) → left v ≤ n → At v t → Ran ds Q t (turns n test body step t)
  turns_ran zero v t le at = let a = answer v t at in go a.0 a.1
    where
      go : (b : Bool) → test t ≡ Some b → Ran ds Q t (turns zero test body step t)
      go false e = stops zero t e (ends v t at)
      go true e = let less = (goes v t at e).0 in absurd (omega arith)
  turns_ran (suc n) v t le at = let a = answer v t at in go a.0 a.1 (λ u less at'. turns_ran n (next v) u (omega arith) at')
    where
      go : (b : Bool) → test t ≡ Some b → ((u : State) → left (next v) < left v → At (next v) u → Ran ds Q u (turns n test body step u)) → Ran ds Q t (turns (suc n) test body step t)
      go false e rest = stops (suc n) t e (ends v t at)
      go true e rest = one_turn n v t at e (λ u at'. rest u (goes v t at e).0 at')
