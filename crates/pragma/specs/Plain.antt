-- Parallel loops that stand before their `for`, and inside no parallel loop. (OpenMP 5.2, 11.5 and 17)
use Rattle.std.specs.Prelude.{ℕ, Bool, true, false, ◌||◌, ◌≡◌, List, [], Option, MatchOption}
use Rattle.semantics.specs.Tree.{Stmt, Assign, Update, If, IfElse, For, Block, Print, Items, no_items, mark, local, stmt, Kernel}
use Rattle.pragma.specs.Parallel.{AskedOfLoop, LineHas, LoopsHave, ItemsHave}

abbrev mutual
  -- a directive line stands in a statement
  pub has_line : Stmt → Bool
  has_line (Assign x is e) = false
  has_line (Update x is op e) = false
  has_line (If c a) = has_line a
  has_line (IfElse c a b) = has_line a || has_line b
  has_line (For x name start test step body) = has_line body
  has_line (Block items) = has_line_among items
  has_line (Print parts) = false

  -- or among a block's items
  pub has_line_among : Items → Bool
  has_line_among no_items = false
  has_line_among (mark line rest) = true
  has_line_among (local x name start rest) = has_line_among rest
  has_line_among (stmt s rest) = has_line s || has_line_among rest

-- a `for` with no directive line in it
abbrev pub IsPlainFor : Stmt → Type 0
IsPlainFor (For x name start test step body) = has_line body ≡ false
IsPlainFor _ = ⊥

-- a parallel loop is such a `for`, whatever stands round it
abbrev pub IsPlainLoop : AskedOfLoop
IsPlainLoop serial n s = IsPlainFor s

-- each directive line of a text is a `parallel for` directly before such a `for`
abbrev pub IsDirected : List ℕ → Kernel → Type 0
IsDirected text k = ItemsHave text IsPlainLoop [] k.body

-- what the first of these items asks for as a directive line before others
abbrev pub FirstLineHas : List ℕ → Items → Items → Type 0
FirstLineHas text (mark line items) rest = LineHas text IsPlainLoop [] line rest
FirstLineHas text _ rest = Unit {0}

-- and as a statement
abbrev pub FirstLoopsHave : List ℕ → Items → Type 0
FirstLoopsHave text (stmt s items) = LoopsHave text IsPlainLoop [] s
FirstLoopsHave text _ = Unit {0}

-- no fault, where it is so, and one where it is not
abbrev pub Judges : {A : Type 0} → Option A → Type 0 → Type 0
Judges o P = MatchOption o P (λ _. P → ⊥)
