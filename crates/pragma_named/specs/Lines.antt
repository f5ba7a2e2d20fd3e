-- Directive lines among a block's items, and what is asked of each with the statement behind it (OpenMP 5.2, 3.1).
use Rattle.std.specs.Prelude.{ℕ, Bool, true, ◌&&◌, Option, Some, None}
use Rattle.semantics.specs.Tree.{Stmt, Assign, Update, If, IfElse, For, Block, Print, Items, no_items, mark, local, stmt}
use Rattle.ktree.specs.declared.statement.Item.{Item, Directive}

-- what is asked of a line and the statement behind it
abbrev pub Question : Type 0
Question = ℕ → Stmt → Bool

-- of a line before a statement, if there is one
abbrev pub asked : Question → Option ℕ → Stmt → Bool
asked ask None s = true
asked ask (Some n) s = ask n s

abbrev mutual
  -- of each construct in a statement
  pub each_construct : Question → Stmt → Bool
  each_construct ask (Assign x is e) = true
  each_construct ask (Update x is op e) = true
  each_construct ask (If c a) = each_construct ask a
  each_construct ask (IfElse c a b) = each_construct ask a && each_construct ask b
  each_construct ask (For x name start test step body) = each_construct ask body
  each_construct ask (Block items) = each_among ask None items
  each_construct ask (Print parts) = true

  -- of those among a block's items
  pub each_among : Question → Option ℕ → Items → Bool
  each_among ask before no_items = true
  each_among ask before (mark n rest) = each_among ask (Some n) rest
  each_among ask before (local x name start rest) = each_among ask None rest
  each_among ask before (stmt s rest) = asked ask before s && each_construct ask s && each_among ask None rest

-- the line that an item is
abbrev pub line_in : Item → Option ℕ
line_in (Directive place) = Some place.line
line_in _ = None
