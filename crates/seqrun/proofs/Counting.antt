-- The loop that the tests run.
use Rattle.std.specs.Prelude.{[], ◌∷◌, codes, IsSome}
use Rattle.std.proofs.Common.{refl}
use Rattle.semantics.specs.Tree
use Rattle.semantics.specs.Meaning.State.{State}
use Rattle.semantics.specs.Meaning.Runs.{run, greatest_trip_count}

abbrev pub line : Tree.Stmt
line = Tree.Print (Tree.Decimal (Tree.Object 1 Tree.no_exprs) ∷ Tree.Characters (codes "\n") ∷ [])

abbrev pub loop_of : Tree.Stmt → Tree.Stmt
loop_of body = Tree.For 1 (codes "i") (Tree.Number (Tree.Literal 9 Tree.Ull)) (Tree.Compare Tree.Less (Tree.Object 1 Tree.no_exprs) (Tree.Literal 12 Tree.Ull)) (Tree.Up 1) body

-- it has a run from any state
pub counts : (s : State) → IsSome (run (loop_of line) s)
unfolding greatest_trip_count
counts s = refl
