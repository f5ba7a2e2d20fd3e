-- The data of parallel loops: what is not declared in a loop is shared, and no shared scalar is written. (OpenMP 5.2, 5.1.1 and 5.4)
use Rattle.std.specs.Prelude.{ℕ, Bool, true, not, ◌&&◌, List, ◌++◌, Option, Some, None, option_map}
use Rattle.semantics.specs.Tree.{Variable, Exprs, no_exprs, more_exprs, Stmt, Assign, Update, If, IfElse, For, Block, Print, Items, no_items, mark, local, stmt}
use Rattle.semantics.specs.Meaning.Agrees.{is_among, declared_in}
use Rattle.semantics.specs.Loops.Nest.{nest_of}

-- what is assigned is an element, or one of one's own scalars (OpenMP 5.2, 5.1.1)
abbrev pub is_own : (Variable → Bool) → Variable → Exprs → Bool
is_own own x no_exprs = own x
is_own own x (more_exprs i is) = true

abbrev mutual
  -- of scalars a statement assigns its own alone; a loop's step is no assignment
  pub keeps : (Variable → Bool) → Stmt → Bool
  keeps own (Assign x is e) = is_own own x is
  keeps own (Update x is op e) = is_own own x is
  keeps own (If c a) = keeps own a
  keeps own (IfElse c a b) = keeps own a && keeps own b
  keeps own (For x name start test step body) = keeps own body
  keeps own (Block items) = keeps_all own items
  keeps own (Print parts) = true

  -- a block's items do so
  pub keeps_all : (Variable → Bool) → Items → Bool
  keeps_all own no_items = true
  keeps_all own (mark line rest) = keeps_all own rest
  keeps_all own (local x name start rest) = keeps_all own rest
  keeps_all own (stmt s rest) = keeps own s && keeps_all own rest

-- of scalars a loop's body assigns those alone that it declares, and its private ones
abbrev pub is_private_body : List Variable → Stmt → Bool
is_private_body ps body = keeps (is_among (declared_in body ++ ps)) body

-- all variables but these
abbrev pub all_but : List Variable → Variable → Bool
all_but ps x = not (is_among ps x)

-- what the innermost of so many loops runs
abbrev pub nest_body_of : ℕ → Stmt → Option Stmt
nest_body_of n s = option_map (λ nest. nest.1) (nest_of n s)

-- the statement that stands first
abbrev pub first_stmt_of : Items → Option Stmt
first_stmt_of (stmt s rest) = Some s
first_stmt_of _ = None
