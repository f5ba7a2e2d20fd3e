-- The parallel regions of a text in order, as the listing tells them, and where construct directives may stand.
use Rattle.std.specs.Prelude.{ℕ, List, [], ◌∷◌, ◌++◌, map, flat_map, Option, Some, None, ℤ}
use Rattle.semantics.specs.Tree.{Name, Stmt, Assign, Update, If, IfElse, For, Block, Print, Items, no_items, mark, local, stmt, Kernel}
use Rattle.semantics.specs.Loops.Nest.{Loop, nest_of}
use Rattle.semantics.specs.Directives.Directive.{Clause, Directive, ParallelFor, Parallel, Worksharing, DoacrossSink}
use Rattle.semantics.specs.Directives.Annotated.{Directives, directive_at}
use Rattle.semantics.specs.Directives.Clauses.{depth_of, schedule_of, doacross_of, reduction_of, is_scan}
use Rattle.semantics.specs.Directives.Listing.{ListedLoop, listing}

-- of a sink, and of no other directive
abbrev pub offsets_of : Option (Directive Name) → List (List ℤ)
offsets_of (Some (DoacrossSink es)) = map (λ e. e.1) es ∷ []
offsets_of _ = []

-- the sinks of a nest's body, by their offsets, in text order (OpenMP 5.2, 15.9)
abbrev pub sinks_among : Directives → Items → List (List ℤ)
sinks_among ds no_items = []
sinks_among ds (mark n rest) = offsets_of (directive_at ds n) ++ sinks_among ds rest
sinks_among ds (local x name start rest) = sinks_among ds rest
sinks_among ds (stmt s rest) = sinks_among ds rest

-- of a nest whose body is a block
abbrev pub sinks_in : Directives → Option (List Loop × Stmt) → List (List ℤ)
sinks_in ds (Some (loops, Block items)) = sinks_among ds items
sinks_in ds _ = []

-- a loop by the clauses of its own directive
abbrev pub listed : Directives → List (Clause Name) → Stmt → ListedLoop
listed ds cs s =
    record {
      schedule = schedule_of cs;
      doacross = doacross_of cs;
      sinks = sinks_in ds (nest_of (depth_of cs) s);
      reductions = flat_map reduction_of cs;
      scan = is_scan cs;
    }

-- the loops of a `parallel` block, each behind its `for` directive
abbrev pub shared_by : Directives → Option (Directive Name) → Stmt → List ListedLoop
shared_by ds (Some (Worksharing cs)) s = listed ds cs s ∷ []
shared_by ds _ s = []

-- each loop behind its own directive
abbrev pub loops_among : Directives → Option (Directive Name) → Items → List ListedLoop
loops_among ds before no_items = []
loops_among ds before (mark n rest) = loops_among ds (directive_at ds n) rest
loops_among ds before (local x name start rest) = loops_among ds None rest
loops_among ds before (stmt s rest) = shared_by ds before s ++ loops_among ds None rest

-- of a block alone
abbrev pub loops_in : Directives → Stmt → List ListedLoop
loops_in ds (Block items) = loops_among ds None items
loops_in ds _ = []

-- a region (OpenMP 5.2, 10.1 and 17), or those that stand in a statement without such a directive
abbrev pub region_by : Directives → Option (Directive Name) → Stmt → List (List ListedLoop) → List (List ListedLoop)
region_by ds (Some (ParallelFor cs)) s inside = (listed ds cs s ∷ []) ∷ []
region_by ds (Some (Parallel cs)) s inside = loops_in ds s ∷ []
region_by ds _ s inside = inside

abbrev mutual
  pub regions_in : Directives → Stmt → List (List ListedLoop)
  regions_in ds (Assign x is e) = []
  regions_in ds (Update x is op e) = []
  regions_in ds (If c a) = regions_in ds a
  regions_in ds (IfElse c a b) = regions_in ds a ++ regions_in ds b
  regions_in ds (For x name start test step body) = regions_in ds body
  regions_in ds (Block items) = regions_among ds None items
  regions_in ds (Print parts) = []

  -- before: the directive on the line before
  pub regions_among : Directives → Option (Directive Name) → Items → List (List ListedLoop)
  regions_among ds before no_items = []
  regions_among ds before (mark n rest) = regions_among ds (directive_at ds n) rest
  regions_among ds before (local x name start rest) = regions_among ds None rest
  regions_among ds before (stmt s rest) = region_by ds before s (regions_in ds s) ++ regions_among ds None rest

-- the listing of a text with its directives
abbrev pub listing_of : Kernel → Directives → List ℕ
listing_of k ds = listing (regions_among ds None k.body)
