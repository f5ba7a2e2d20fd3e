-- Where the directives of parallel constructs may stand. Those of scan and ordered are judged with their loops.
use Rattle.std.specs.Prelude.{Bool, true, false, not, ◌&&◌, Option, Some, None}
use Rattle.semantics.specs.Tree.{Name, Stmt, Assign, Update, If, IfElse, For, Block, Print, Items, no_items, mark, local, stmt, Kernel}
use Rattle.semantics.specs.Directives.Directive.{Directive, ParallelFor, Parallel, Worksharing}
use Rattle.semantics.specs.Directives.Annotated.{Directives, directive_at}

-- a loop, without braces round it
abbrev pub is_for : Stmt → Bool
is_for (For x name start test step body) = true
is_for _ = false

-- parallel for, parallel and for open a construct, which is the statement behind them
abbrev pub opens : Option (Directive Name) → Bool
opens (Some (ParallelFor cs)) = true
opens (Some (Parallel cs)) = true
opens (Some (Worksharing cs)) = true
opens _ = false

-- a `for` directive
abbrev pub is_worksharing : Option (Directive Name) → Bool
is_worksharing (Some (Worksharing cs)) = true
is_worksharing _ = false

-- the items of a `parallel` block: `for` directives, each with its loop (OpenMP 5.2, 11.5.1)
abbrev pub are_pairs : Directives → Items → Bool
are_pairs ds no_items = true
are_pairs ds (mark n (stmt s rest)) = is_worksharing (directive_at ds n) && (is_for s && are_pairs ds rest)
are_pairs ds _ = false

-- a block that is not empty
abbrev pub holds_items : Items → Bool
holds_items no_items = false
holds_items _ = true

-- one pair at least (OpenMP 5.2, 10.1)
abbrev pub is_team_block : Directives → Stmt → Bool
is_team_block ds (Block items) = holds_items items && are_pairs ds items
is_team_block ds _ = false

-- whether a construct may stand round a statement; in_team: this block is that of a `parallel`; may: no parallel loop stands round it
abbrev pub fits_behind : Directives → Bool → Bool → Option (Directive Name) → Stmt → Bool
fits_behind ds may in_team (Some (ParallelFor cs)) s = may && is_for s
fits_behind ds may in_team (Some (Parallel cs)) s = may && is_team_block ds s
fits_behind ds may in_team (Some (Worksharing cs)) s = in_team && is_for s
fits_behind ds may in_team _ s = true

-- what may stand inside it
abbrev pub may_inside : Bool → Option (Directive Name) → Bool
may_inside may before = may && not (opens before)

-- a `parallel` directive
abbrev pub is_team : Option (Directive Name) → Bool
is_team (Some (Parallel cs)) = true
is_team _ = false

abbrev mutual
  pub is_placed : Directives → Bool → Bool → Stmt → Bool
  is_placed ds may in_team (Assign x is e) = true
  is_placed ds may in_team (Update x is op e) = true
  is_placed ds may in_team (If c a) = is_placed ds may false a
  is_placed ds may in_team (IfElse c a b) = is_placed ds may false a && is_placed ds may false b
  is_placed ds may in_team (For x name start test step body) = is_placed ds may false body
  is_placed ds may in_team (Block items) = are_placed ds may in_team None items
  is_placed ds may in_team (Print parts) = true

  -- before: the directive on the line before, if it opens a construct
  pub are_placed : Directives → Bool → Bool → Option (Directive Name) → Items → Bool
  are_placed ds may in_team before no_items = not (opens before)
  are_placed ds may in_team before (mark n rest) = not (opens before) && are_placed ds may in_team (directive_at ds n) rest
  are_placed ds may in_team before (local x name start rest) = not (opens before) && are_placed ds may in_team None rest
  are_placed ds may in_team before (stmt s rest) =
      fits_behind ds may in_team before s && (is_placed ds (may_inside may before) (is_team before) s && are_placed ds may in_team None rest)

-- each construct stands where it may
abbrev pub is_well_placed : Kernel → Directives → Bool
is_well_placed k ds = are_placed ds true false None k.body
