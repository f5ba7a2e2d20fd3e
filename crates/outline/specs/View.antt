-- What an outline does inside serial loops: each parallel loop in it is run by a team. (C11 6.8; OpenMP 5.2, 11.5)
use Rattle.std.specs.Prelude.{List, [], ◌∷◌, ◌++◌, Option, Some}
use Rattle.semantics.specs.Tree
use Rattle.semantics.specs.Meaning.State.{State}
use Rattle.semantics.specs.Meaning.Value.{holds, by_test}
use Rattle.semantics.specs.Meaning.Runs.{Effect, nothing, then_from, declared, incremented, turns, greatest_trip_count, run, run_items}
use Rattle.semantics.specs.Loops.Nest.{Loop}
use Rattle.ktree.specs.View.{source_of, cond_of, increment_of, stmt_of, with_item}
use Rattle.nest.specs.Heads.{head_of}
use Rattle.semantics.specs.Loops.Piece.{Roles}
use Rattle.flow.specs.Roles.{LineData, left_roles}
use Rattle.law_independence.specs.OrderLaws.{used_roles}
use Rattle.law_apart.specs.Apart.{handed}
use Rattle.outline.specs.declared.shape.Outline.{Outline, Serial, Team, If', For', Block', Held-Outline-If-3, None', Some', Row_of-OutlineItem, end_of-OutlineItem, more_of-OutlineItem}
use Rattle.outline.specs.declared.shape.TeamLoop.{TeamLoop}
use Rattle.outline.specs.declared.shape.OutlineItem.{OutlineItem, Plain, Statement'}

-- what a loop's line says of the scalars that it assigns from outside
abbrev pub roles_in : LineData → TeamLoop → Roles
roles_in R l = used_roles (stmt_of l.statement.now) (left_roles (R l.line))

abbrev mutual
  -- a statement, by what each directive line says
  pub performed : LineData → List Loop → Outline → State → Option Effect
  performed R serial (Serial code s) = run (stmt_of s.now)
  performed R serial (Team l) = handed (roles_in R l) serial (stmt_of l.statement.now)
  performed R serial (If' test c p a b) = λ s. by_test (holds s (cond_of c.now)) (performed R serial a s) (else_performed R serial b s)
  performed R serial (For' lowered head p body) =
      λ s. then_from s (declared s head.now.variable.0 (Some (source_of head.now.start)))
      (turns greatest_trip_count (λ t. holds t (cond_of head.now.test)) (performed R (serial ++ head_of head.now ∷ []) body) (λ t. incremented t (increment_of head.now.step)))
  performed R serial (Block' shape items) = row_performed R serial items

  -- what stands behind `else`
  pub else_performed : LineData → List Loop → Held-Outline-If-3 → State → Option Effect
  else_performed R serial None' = λ s. Some nothing
  else_performed R serial (Some' p b) = performed R serial b

  -- an item
  pub item_performed : LineData → List Loop → OutlineItem → State → Option Effect
  item_performed R serial (Plain code i) = run_items (with_item i.now Tree.no_items)
  item_performed R serial (Statement' p a) = performed R serial a

  -- the items of a block
  pub row_performed : LineData → List Loop → {m : _} → Row_of-OutlineItem m → State → Option Effect
  row_performed R serial end_of-OutlineItem = λ s. Some nothing
  row_performed R serial (more_of-OutlineItem i rest) = λ s. then_from s (item_performed R serial i s) (row_performed R serial rest)

-- a block's items
abbrev pub items_performed : LineData → List Loop → List OutlineItem → State → Option Effect
items_performed R serial [] = λ s. Some nothing
items_performed R serial (i ∷ is) = λ s. then_from s (item_performed R serial i s) (items_performed R serial is)
