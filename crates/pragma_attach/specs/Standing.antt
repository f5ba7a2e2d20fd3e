-- Constructs where they may stand, on lines that are all read (OpenMP 5.2, 10.1, 11.5 and 17): what is asked of a tree, each line looked up in its text.
use Rattle.std.specs.Prelude.{ℕ, Bool, true, false, not, ◌&&◌, List, Option, Some, None, is_some, is_none}
use Rattle.semantics.specs.Tree.{Name, Stmt, Assign, Update, If, IfElse, For, Block, Print, Items, no_items, mark, local, stmt, Kernel}
use Rattle.semantics.specs.Source.Text.{line_at}
use Rattle.semantics.specs.Directives.Directive.{Directive, ParallelFor, Parallel, Worksharing}
use Rattle.semantics.specs.Directives.Placed.{is_for, holds_items}
use Rattle.pragma_clause.specs.DirectiveReader.{line_directive, line_form}
use Rattle.pragma_attach.specs.declared.placed.Construct.{Construct}
use Rattle.pragma_attach.specs.declared.placed.Construct.TheVariants.{ParallelLoop, Team, Loop}

-- the directive on a line of a text, if it is one
abbrev pub directive_on : List ℕ → ℕ → Option (Directive Name)
directive_on text n = line_directive true (line_at text n)

-- the one that it is whatever its numbers
abbrev pub form_on : List ℕ → ℕ → Option (Directive Name)
form_on text n = line_form (line_at text n)

-- the construct that a directive opens
abbrev pub construct_of : Option (Directive Name) → Option Construct
construct_of (Some (ParallelFor cs)) = Some ParallelLoop
construct_of (Some (Parallel cs)) = Some Team
construct_of (Some (Worksharing cs)) = Some Loop
construct_of _ = None

-- a `for` directive whatever its numbers, or a line that is refused for itself
abbrev pub may_be_loop : Option (Directive Name) → Bool
may_be_loop None = true
may_be_loop (Some (Worksharing cs)) = true
may_be_loop _ = false

-- the items of a `parallel` block: `for` directives, each with its loop; behind: the line of one stands before
abbrev pub are_loops : List ℕ → Bool → Items → Bool
are_loops text behind no_items = not behind
are_loops text false (mark n rest) = may_be_loop (form_on text n) && are_loops text true rest
are_loops text true (stmt s rest) = is_for s && are_loops text false rest
are_loops text _ _ = false

-- one loop at least
abbrev pub holds_loops : List ℕ → Stmt → Bool
holds_loops text (Block items) = holds_items items && are_loops text false items
holds_loops text _ = false

-- the statement behind a construct's line is its own
abbrev pub fits : List ℕ → Bool → Bool → Option Construct → Stmt → Bool
fits text may in_team None s = true
fits text may in_team (Some ParallelLoop) s = may && is_for s
fits text may in_team (Some Team) s = may && holds_loops text s
fits text may in_team (Some Loop) s = in_team && is_for s

-- a `parallel`
abbrev pub is_team : Option Construct → Bool
is_team (Some Team) = true
is_team _ = false

abbrev mutual
  pub stands : List ℕ → Bool → Bool → Stmt → Bool
  stands text may in_team (Assign x is e) = true
  stands text may in_team (Update x is op e) = true
  stands text may in_team (If c a) = stands text may false a
  stands text may in_team (IfElse c a b) = stands text may false a && stands text may false b
  stands text may in_team (For x name start test step body) = stands text may false body
  stands text may in_team (Block items) = all_stand text may in_team None items
  stands text may in_team (Print parts) = true

  -- before: what the line before opens
  pub all_stand : List ℕ → Bool → Bool → Option Construct → Items → Bool
  all_stand text may in_team before no_items = is_none before
  all_stand text may in_team before (mark n rest) =
      is_none before && (is_some (directive_on text n) && all_stand text may in_team (construct_of (directive_on text n)) rest)
  all_stand text may in_team before (local x name start rest) = is_none before && all_stand text may in_team None rest
  all_stand text may in_team before (stmt s rest) =
      fits text may in_team before s && (stands text (may && is_none before) (is_team before) s && all_stand text may in_team None rest)

-- of a kernel
abbrev pub is_standing : List ℕ → Kernel → Bool
is_standing text k = all_stand text true false None k.body
