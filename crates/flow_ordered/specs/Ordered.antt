-- Ordered regions where they may stand, and no other printf in a parallel loop. (OpenMP 5.2, 4.4.4 and 15.10)
use Rattle.std.specs.Prelude.{ℕ, Bool, true, false, not, ◌&&◌, ◌||◌, if◌then◌else◌, List, [], ◌∷◌, Option, Some, None, is_some}
use Rattle.semantics.specs.Tree.{Name, Stmt, Assign, Update, If, IfElse, For, Block, Print, Items, no_items, mark, local, stmt, Kernel}
use Rattle.semantics.specs.Directives.Directive.{Clause, Ordered, Directive, ParallelFor, Worksharing}
use Rattle.cparse_grammar.specs.Reading.{◌>>=◌}
use Rattle.pragma.specs.Clauses.{said_by}
use Rattle.pragma.specs.Parallel.{associated}
use Rattle.pragma_attach.specs.Standing.{directive_on}
use Rattle.pragma_region.specs.Regions.{is_ordered_line}
use Rattle.flow.specs.Private.{nest_body_of}

-- ---- inside a parallel loop

-- nothing but printf
abbrev pub are_prints : Items → Bool
are_prints no_items = true
are_prints (stmt (Print parts) rest) = are_prints rest
are_prints _ = false

-- printf, or a block of nothing else
abbrev pub is_printing : Stmt → Bool
is_printing (Print parts) = true
is_printing (Block items) = are_prints items
is_printing _ = false

-- the statement behind an `ordered` line: a region, where one may stand and none was met before it
abbrev pub region_met : Bool → Bool → Stmt → Option Bool
region_met may met s = if may && not met && is_printing s then Some true else None

-- the end of a block, or an item that is no statement: no `ordered` line stands before it
abbrev pub none_before : Bool → Option Bool → Option Bool
none_before before next = if before then None else next

abbrev mutual
  -- whether a region was met in a statement or before it, where each printf of it stands in a region; may: no loop inside the parallel one stands round it
  pub met_in : List ℕ → Bool → Bool → Stmt → Option Bool
  met_in text may met (Assign x is e) = Some met
  met_in text may met (Update x is op e) = Some met
  met_in text may met (If c a) = met_in text may met a
  met_in text may met (IfElse c a b) = met_in text may met a >>= λ now. met_in text may now b
  met_in text may met (For x name start test step body) = met_in text false met body
  met_in text may met (Block items) = met_among text may false met items
  met_in text may met (Print parts) = None

  -- before: an `ordered` line stands before these items
  pub met_among : List ℕ → Bool → Bool → Bool → Items → Option Bool
  met_among text may before met no_items = none_before before (Some met)
  met_among text may before met (mark n rest) = none_before before (met_among text may (is_ordered_line text n) met rest)
  met_among text may before met (local x name start rest) = none_before before (met_among text may false met rest)
  met_among text may before met (stmt s rest) = (if before then region_met may met s else met_in text may met s) >>= λ now. met_among text may false now rest

-- ---- parallel loops

-- the clause without a number (OpenMP 5.2, 4.4.4)
abbrev pub orders : Clause Name → Bool
orders Ordered = true
orders _ = false

-- it is one of these
abbrev pub any_orders : List (Clause Name) → Bool
any_orders [] = false
any_orders (c ∷ cs) = orders c || any_orders cs

-- the clauses of a directive, where it is a loop's
abbrev pub loop_clauses : Option (Directive Name) → Option (List (Clause Name))
loop_clauses (Some (ParallelFor cs)) = Some cs
loop_clauses (Some (Worksharing cs)) = Some cs
loop_clauses _ = None

-- the loop with these clauses: one region at most stands in its body, where they have that clause, and no other printf
abbrev pub loop_orders : List ℕ → List (Clause Name) → Stmt → Bool
loop_orders text cs s = is_some (said_by cs >>= λ said. nest_body_of (associated said.1) s >>= λ body. met_in text (any_orders cs) false body)

-- a statement behind such clauses, or behind none: what stands inside it
abbrev pub orders_by : List ℕ → Option (List (Clause Name)) → Stmt → Bool → Bool
orders_by text None s inside = inside
orders_by text (Some cs) s inside = loop_orders text cs s

-- one behind the line of this number, if there is one
abbrev pub orders_behind : List ℕ → Option ℕ → Stmt → Bool → Bool
orders_behind text None s inside = inside
orders_behind text (Some n) s inside = orders_by text (loop_clauses (directive_on text n)) s inside

abbrev mutual
  -- each `ordered` line and each printf of a parallel loop stands where it may
  pub is_ordered_rightly : List ℕ → Stmt → Bool
  is_ordered_rightly text (Assign x is e) = true
  is_ordered_rightly text (Update x is op e) = true
  is_ordered_rightly text (If c a) = is_ordered_rightly text a
  is_ordered_rightly text (IfElse c a b) = is_ordered_rightly text a && is_ordered_rightly text b
  is_ordered_rightly text (For x name start test step body) = is_ordered_rightly text body
  is_ordered_rightly text (Block items) = are_ordered_rightly text None items
  is_ordered_rightly text (Print parts) = true

  -- before: the number of the line before these items
  pub are_ordered_rightly : List ℕ → Option ℕ → Items → Bool
  are_ordered_rightly text before no_items = true
  are_ordered_rightly text before (mark n rest) = not (is_ordered_line text n) && are_ordered_rightly text (Some n) rest
  are_ordered_rightly text before (local x name start rest) = are_ordered_rightly text None rest
  are_ordered_rightly text before (stmt s rest) = orders_behind text before s (is_ordered_rightly text s) && are_ordered_rightly text None rest

-- so it is of a kernel
abbrev pub prints_in_order : List ℕ → Kernel → Bool
prints_in_order text k = are_ordered_rightly text None k.body
