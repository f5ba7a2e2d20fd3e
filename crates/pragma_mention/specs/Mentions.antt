-- A statement names nothing else: what is asked of each of its parts.
use Rattle.std.specs.Prelude.{Bool, true, ◌&&◌}
use Rattle.semantics.specs.Tree.{Variable, Stmt, Assign, Update, If, IfElse, For, Block, Print, Items, no_items, mark, local, stmt}
use Rattle.semantics.specs.Meaning.Agrees.{names_expr, names_exprs, names_cond, names_source, names_start, names_step, names_parts}

abbrev mutual
  pub mentions_only : (Variable → Bool) → Stmt → Bool
  mentions_only V (Assign x is a) = V x && names_exprs V is && names_source V a
  mentions_only V (Update x is op a) = V x && names_exprs V is && names_expr V a
  mentions_only V (If c a) = names_cond V c && mentions_only V a
  mentions_only V (IfElse c a b) = names_cond V c && mentions_only V a && mentions_only V b
  mentions_only V (For x name start test step body) = names_source V start && names_cond V test && names_step V step && mentions_only V body
  mentions_only V (Block items) = mention_only V items
  mentions_only V (Print parts) = names_parts V parts

  -- a block's items
  pub mention_only : (Variable → Bool) → Items → Bool
  mention_only V no_items = true
  mention_only V (mark line rest) = mention_only V rest
  mention_only V (local x name start rest) = names_start V start && mention_only V rest
  mention_only V (stmt a rest) = mentions_only V a && mention_only V rest
