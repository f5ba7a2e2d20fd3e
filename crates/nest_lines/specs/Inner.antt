-- Lines of a kind in the body of a parallel loop. (OpenMP 5.2, 5.6 and 15.10)
use Rattle.std.specs.Prelude.{ℕ, Bool, false, ◌||◌, List}
use Rattle.semantics.specs.Tree.{Stmt, Assign, Update, If, IfElse, For, Block, Print, Items, no_items, mark, local, stmt}
use Rattle.pragma_region.specs.Regions.{is_scan_line, is_doacross_line}
use Rattle.nest_lines.specs.declared.inner.InnerLine.{InnerLine}
use Rattle.nest_lines.specs.declared.inner.InnerLine.TheVariants.{Scan, Doacross}

-- the line of this number is of the kind
abbrev pub is_line : List ℕ → InnerLine → ℕ → Bool
is_line text Scan n = is_scan_line text n
is_line text Doacross n = is_doacross_line text n

abbrev mutual
  -- one stands in a statement
  pub has_line : List ℕ → InnerLine → Stmt → Bool
  has_line text kind (Assign x is e) = false
  has_line text kind (Update x is op e) = false
  has_line text kind (If c a) = has_line text kind a
  has_line text kind (IfElse c a b) = has_line text kind a || has_line text kind b
  has_line text kind (For x name start test step body) = has_line text kind body
  has_line text kind (Block items) = have_line text kind items
  has_line text kind (Print parts) = false

  -- or among items
  pub have_line : List ℕ → InnerLine → Items → Bool
  have_line text kind no_items = false
  have_line text kind (mark n rest) = is_line text kind n || have_line text kind rest
  have_line text kind (local x name start rest) = have_line text kind rest
  have_line text kind (stmt s rest) = has_line text kind s || have_line text kind rest
