-- Trees without some of their directive lines. (C11 6.8.2)
use Rattle.std.specs.Prelude.{ℕ, Bool, ◌≡◌, if◌then◌else◌, List}
use Rattle.semantics.specs.Tree.{Stmt, Assign, Update, If, IfElse, For, Block, Print, Items, no_items, mark, local, stmt, Kernel}
use Rattle.semantics.specs.Source.Token.{Token}
use Rattle.semantics.specs.Source.Grammar.{Reads, ReadsText}

abbrev mutual
  -- a statement without the directive lines of these numbers
  pub without_in : (ℕ → Bool) → Stmt → Stmt
  without_in out (Assign x is e) = Assign x is e
  without_in out (Update x is op e) = Update x is op e
  without_in out (If c a) = If c (without_in out a)
  without_in out (IfElse c a b) = IfElse c (without_in out a) (without_in out b)
  without_in out (For x name start test step body) = For x name start test step (without_in out body)
  without_in out (Block items) = Block (without_among out items)
  without_in out (Print parts) = Print parts

  -- a block's items without them
  pub without_among : (ℕ → Bool) → Items → Items
  without_among out no_items = no_items
  without_among out (mark line rest) = if out line then without_among out rest else mark line (without_among out rest)
  without_among out (local x name start rest) = local x name start (without_among out rest)
  without_among out (stmt s rest) = stmt (without_in out s) (without_among out rest)

-- a kernel without them
abbrev pub without_lines : (ℕ → Bool) → Kernel → Kernel
without_lines out k = record { constants = k.constants; variables = k.variables; body = without_among out k.body }

-- a text is read as a tree that is this one, but for directive lines that are left out here
pub record IsTreeOf (text : List ℕ) (tree : Kernel) : Type 0 where
  pub whole : Kernel
  pub reads : ReadsText text whole
  pub left_out : ℕ → Bool
  pub is : tree ≡ without_lines left_out whole

-- tokens that are read as a tree
pub record HasTokens (tree : Kernel) : Type 0 where
  pub tokens : List Token
  pub reads : Reads tokens tree
