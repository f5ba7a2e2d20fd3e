-- Items that read none of some variables: what is asked of each of their parts. (C11 6.5)
use Rattle.std.specs.Prelude.{Bool, true, ◌&&◌}
use Rattle.semantics.specs.Tree.{Variable, Stmt, Assign, Update, If, IfElse, For, Block, Print, Items, no_items, mark, local, stmt}
use Rattle.semantics.specs.Meaning.Agrees.{names_expr, names_exprs, names_cond, names_source, names_start, names_step, names_parts}

abbrev mutual
  -- a statement reads nothing else
  pub reads_only : (Variable → Bool) → Stmt → Bool
  reads_only V (Assign x is a) = names_exprs V is && names_source V a
  reads_only V (Update x is op a) = V x && names_exprs V is && names_expr V a
  reads_only V (If c a) = names_cond V c && reads_only V a
  reads_only V (IfElse c a b) = names_cond V c && reads_only V a && reads_only V b
  reads_only V (For x name start test step body) = names_source V start && names_cond V test && names_step V step && reads_only V body
  reads_only V (Block items) = read_only V items
  reads_only V (Print parts) = names_parts V parts

  -- nor do items
  pub read_only : (Variable → Bool) → Items → Bool
  read_only V no_items = true
  read_only V (mark line rest) = read_only V rest
  read_only V (local x name start rest) = names_start V start && read_only V rest
  read_only V (stmt a rest) = reads_only V a && read_only V rest
