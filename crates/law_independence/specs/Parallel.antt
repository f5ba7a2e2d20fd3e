-- The first parallel loop of a text of which something is so, by its line, as against each of them. (OpenMP 5.2, 11.5 and 17)
use Rattle.std.specs.Prelude.{ℕ, ◌⊎◌, List, [], ◌∷◌, ◌++◌}
use Rattle.semantics.specs.Tree.{Stmt, Assign, Update, If, IfElse, For, Block, Print, Items, no_items, mark, local, stmt}
use Rattle.semantics.specs.Loops.Nest.{Loop}
use Rattle.pragma.specs.Parallel.{LineHas}
use Rattle.flow.specs.Roles.{AskedByLine, LoopsHaveBy}

abbrev mutual
  -- in a statement inside these loops a parallel loop is so as P says of its line, and each before it as Q says
  pub FirstLoopHasBy : List ℕ → AskedByLine → AskedByLine → List Loop → Stmt → Type 0
  FirstLoopHasBy text Q P serial (Assign x is e) = ⊥
  FirstLoopHasBy text Q P serial (Update x is op e) = ⊥
  FirstLoopHasBy text Q P serial (If c a) = FirstLoopHasBy text Q P serial a
  FirstLoopHasBy text Q P serial (IfElse c a b) = FirstLoopHasBy text Q P serial a ⊎ (LoopsHaveBy text Q serial a × FirstLoopHasBy text Q P serial b)
  FirstLoopHasBy text Q P serial (For x name start test step body) =
      FirstLoopHasBy text Q P (serial ++ record { variable = x; start = start; test = test; step = step } ∷ []) body
  FirstLoopHasBy text Q P serial (Block items) = FirstItemHasBy text Q P serial items
  FirstLoopHasBy text Q P serial (Print parts) = ⊥

  -- in a block's items
  pub FirstItemHasBy : List ℕ → AskedByLine → AskedByLine → List Loop → Items → Type 0
  FirstItemHasBy text Q P serial no_items = ⊥
  FirstItemHasBy text Q P serial (mark line rest) = LineHas text (P line) serial line rest ⊎ (LineHas text (Q line) serial line rest × FirstItemHasBy text Q P serial rest)
  FirstItemHasBy text Q P serial (local x name start rest) = FirstItemHasBy text Q P serial rest
  FirstItemHasBy text Q P serial (stmt s rest) = FirstLoopHasBy text Q P serial s ⊎ (LoopsHaveBy text Q serial s × FirstItemHasBy text Q P serial rest)
