-- What is asked of the parallel loops of a text: each `parallel for` with the statement directly behind it. (OpenMP 5.2, 11.5 and 17)
use Rattle.std.specs.Prelude.{ℕ, List, [], ◌∷◌, ◌++◌, Option, Some, None}
use Rattle.semantics.specs.Tree.{Stmt, Assign, Update, If, IfElse, For, Block, Print, Items, no_items, mark, local, stmt}
use Rattle.semantics.specs.Source.Text.{line_at}
use Rattle.semantics.specs.Loops.Nest.{Loop}
use Rattle.semantics.specs.Directives.Directive.{Schedule}
use Rattle.pragma.specs.Clauses.{ReadsLoop}

-- how many loops a directive associates: one where neither `collapse(c)` nor `ordered(n)` stands (OpenMP 5.2, 4.4.3 and 4.4.4)
abbrev pub associated : Option ℕ → ℕ
associated None = 1
associated (Some c) = c

-- what is asked of a parallel loop: of the loops round it, the outermost first, of how many loops are associated, and of its statement
abbrev pub AskedOfLoop : Type 1
AskedOfLoop = List Loop → ℕ → Stmt → Type 0

-- it is so of the statement that stands first
abbrev pub FirstHas : AskedOfLoop → List Loop → ℕ → Items → Type 0
FirstHas P serial n no_items = ⊥
FirstHas P serial n (mark line rest) = ⊥
FirstHas P serial n (local x name start rest) = ⊥
FirstHas P serial n (stmt s rest) = P serial n s

-- a line is a `parallel for`, and it is so of the statement directly behind it
abbrev pub LineHas : List ℕ → AskedOfLoop → List Loop → ℕ → Items → Type 0
LineHas text P serial line rest = (k : Option Schedule) × (c : Option ℕ) × ReadsLoop (line_at text line) k c × FirstHas P serial (associated c) rest

abbrev mutual
  -- each parallel loop in a statement inside these loops is so
  pub LoopsHave : List ℕ → AskedOfLoop → List Loop → Stmt → Type 0
  LoopsHave text P serial (Assign x is e) = Unit {0}
  LoopsHave text P serial (Update x is op e) = Unit {0}
  LoopsHave text P serial (If c a) = LoopsHave text P serial a
  LoopsHave text P serial (IfElse c a b) = LoopsHave text P serial a × LoopsHave text P serial b
  LoopsHave text P serial (For x name start test step body) =
      LoopsHave text P (serial ++ record { variable = x; start = start; test = test; step = step } ∷ []) body
  LoopsHave text P serial (Block items) = ItemsHave text P serial items
  LoopsHave text P serial (Print parts) = Unit {0}

  -- of a block's items
  pub ItemsHave : List ℕ → AskedOfLoop → List Loop → Items → Type 0
  ItemsHave text P serial no_items = Unit {0}
  ItemsHave text P serial (mark line rest) = LineHas text P serial line rest × ItemsHave text P serial rest
  ItemsHave text P serial (local x name start rest) = ItemsHave text P serial rest
  ItemsHave text P serial (stmt s rest) = LoopsHave text P serial s × ItemsHave text P serial rest
