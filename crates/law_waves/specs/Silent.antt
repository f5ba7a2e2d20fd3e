-- Statements that print nothing. (C11 7.21.6.3)
use Rattle.std.specs.Prelude.{Bool, true, false, ◌&&◌}
use Rattle.semantics.specs.Tree.{Stmt, Assign, Update, If, IfElse, For, Block, Print, Items, no_items, mark, local, stmt}

abbrev mutual
  -- there is no printf in it
  pub is_silent : Stmt → Bool
  is_silent (Assign x is e) = true
  is_silent (Update x is op e) = true
  is_silent (If c a) = is_silent a
  is_silent (IfElse c a b) = is_silent a && is_silent b
  is_silent (For x name start test step body) = is_silent body
  is_silent (Block items) = are_silent items
  is_silent (Print parts) = false

  -- nor in a block's items
  pub are_silent : Items → Bool
  are_silent no_items = true
  are_silent (mark line rest) = are_silent rest
  are_silent (local x name start rest) = are_silent rest
  are_silent (stmt a rest) = is_silent a && are_silent rest
