-- Statements without printf print nothing.
use Rattle.std.specs.Prelude.{ℕ, true, ◌≡◌, List, [], ◌∷◌, ◌++◌, Option, Some}
use Rattle.std.proofs.Common.{refl, sym}
use Rattle.std.proofs.lemmas.Bool.{true≢false}
use Rattle.semantics.specs.Tree.{Variable, Object, Source, Stmt, Assign, Update, If, IfElse, For, Block, Print, Items, no_items, mark, local, stmt}
use Rattle.semantics.specs.Meaning.State.{State}
use Rattle.semantics.specs.Meaning.Value.{value, values, holds, source_value, both_then, operate}
use Rattle.semantics.specs.Meaning.Runs.{Effect, nothing, then_from, declared, assigned, incremented, turns, greatest_trip_count, run, run_items}
use Rattle.semantics.specs.Loops.Nest.{Loop, Vector}
use Rattle.law_commute.proofs.Values.{first_of, second_of}
use Rattle.law_commute.proofs.Effects.{Composes, IfAny, nothing_holds, some_holds, test_holds, steps_hold, turns_hold, declared_holds, write_holds, step_holds}
use Rattle.law_nests.specs.Walks.{walk, enters}
use Rattle.law_waves.specs.Silent.{is_silent, are_silent}

-- it prints nothing
abbrev Quiet : State → Effect → Type 0
Quiet s e = e.text ≡ []

quiet : Composes Quiet
quiet = record { none = λ s. refl; two = λ s d e one two i. one i ++ two i }

quiet_start : (s : State) (x : Variable) (start : Option Source) → IfAny (Quiet s) (declared s x start)
quiet_start s x start = declared_holds Quiet quiet s x start (λ o. refl)

quiet_write : (s : State) (x : Variable) (is : Option (List ℕ)) (o : Option ℕ) → IfAny (Quiet s) (assigned s x is o)
quiet_write = write_holds Quiet quiet (λ s x is v. refl)

mutual
  pub silent_runs : (a : Stmt) → is_silent a ≡ true → (s : State) → IfAny (Quiet s) (run a s)
  silent_runs (Assign x is e) h s = quiet_write s x (values s is) (source_value s e)
  silent_runs (Update x is op e) h s = quiet_write s x (values s is) (both_then (operate op) (value s (Object x is)) (value s e))
  silent_runs (If c a) h s = test_holds Quiet quiet s (holds s c) (run a s) (Some nothing) (silent_runs a h s) (nothing_holds Quiet quiet s)
  silent_runs (IfElse c a b) h s = test_holds Quiet quiet s (holds s c) (run a s) (run b s) (silent_runs a (first_of (is_silent a) (is_silent b) h) s) (silent_runs b (second_of (is_silent a) (is_silent b) h) s)
  silent_runs (For x name start test step body) h s =
      steps_hold Quiet quiet s (declared s x (Some start)) (turns greatest_trip_count (λ u. holds u test) (run body) (λ u. incremented u step)) (quiet_start s x (Some start))
      (turns_hold Quiet quiet test step (run body) (λ t. step_holds Quiet quiet (λ s x is v. refl) t step) (silent_runs body h) greatest_trip_count)
  silent_runs (Block items) h s = silent_items items h s
  silent_runs (Print parts) h s = absurd (true≢false (sym h))

  silent_items : (items : Items) → are_silent items ≡ true → (s : State) → IfAny (Quiet s) (run_items items s)
  silent_items no_items h s = nothing_holds Quiet quiet s
  silent_items (mark line rest) h s = silent_items rest h s
  silent_items (local x name start rest) h s = steps_hold Quiet quiet s (declared s x start) (run_items rest) (quiet_start s x start) (silent_items rest h)
  silent_items (stmt a rest) h s = steps_hold Quiet quiet s (run a s) (run_items rest) (silent_runs a (first_of (is_silent a) (are_silent rest) h) s) (silent_items rest (second_of (is_silent a) (are_silent rest) h))

-- so does a walk
pub silent_walk : (loops : List Loop) (body : Stmt) → is_silent body ≡ true → (us : List Vector) (s : State) (e : Effect) → walk loops body us s ≡ Some e → e.text ≡ []
silent_walk loops body h us s e ran = all us s e ran
  where
    all : (us : List Vector) (s : State) → IfAny (Quiet s) (walk loops body us s)
    all [] s = nothing_holds Quiet quiet s
    all (u ∷ us) s =
        steps_hold Quiet quiet s (Some (enters loops u)) (λ t. then_from t (run body t) (walk loops body us)) (some_holds Quiet quiet s (enters loops u) refl)
        (λ t. steps_hold Quiet quiet t (run body t) (walk loops body us) (silent_runs body h t) (all us))
