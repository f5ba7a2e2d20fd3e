-- A tree without its directive lines runs as the tree with them.
use Rattle.std.specs.Prelude.{◌≡◌, Some}
use Rattle.std.proofs.Common.{refl}
use Rattle.semantics.specs.Tree.{Stmt, Assign, Update, If, IfElse, For, Block, Print, Items, no_items, mark, local, stmt, strip_stmt, strip_items}
use Rattle.semantics.specs.Meaning.State.{State}
use Rattle.semantics.specs.Meaning.Value.{holds, by_test}
use Rattle.semantics.specs.Meaning.Runs.{nothing, then_from, declared, incremented, turns, greatest_trip_count, run, run_items}
use Rattle.law_runs.specs.Total.{StripKeepsRuns}

mutual
  same_run : (a : Stmt) (s : State) → run (strip_stmt a) s ≡ run a s
  same_run (Assign x is e) s = refl
  same_run (Update x is op e) s = refl
  same_run (If c a) s = λ i. by_test (holds s c) (same_run a s i) (Some nothing)
  same_run (IfElse c a b) s = λ i. by_test (holds s c) (same_run a s i) (same_run b s i)
  same_run (For x name start test step body) s =
      λ i. then_from s (declared s x (Some start)) (turns greatest_trip_count (λ t. holds t test) (λ t. same_run body t i) (λ t. incremented t step))
  same_run (Block items) s = same_items items s
  same_run (Print parts) s = refl

  same_items : (items : Items) (s : State) → run_items (strip_items items) s ≡ run_items items s
  same_items no_items s = refl
  same_items (mark line rest) s = same_items rest s
  same_items (local x name start rest) s = λ i. then_from s (declared s x start) (λ t. same_items rest t i)
  same_items (stmt a rest) s = λ i. then_from s (same_run a s i) (λ t. same_items rest t i)

pub strip_keeps_runs : StripKeepsRuns
strip_keeps_runs k s = same_items k.body s
