-- What directive lines say of scans, and by which name a variable is declared. (OpenMP 5.2, 5.6; C11 6.2.1)
use Rattle.std.specs.Prelude.{ℕ, Bool, true, false, ◌==◌, ◌&&◌, ◌||◌, List, [], ◌∷◌, flat_map, Option, Some, None, slice_get}
use Rattle.semantics.specs.Tree.{Name, Variable, Declaration, Stmt, Assign, Update, If, IfElse, For, Block, Print, Items, no_items, mark, local, stmt, Kernel}
use Rattle.semantics.specs.Meaning.State.{same_indexes}
use Rattle.semantics.specs.Loops.Operator.{ReduceOp}
use Rattle.semantics.specs.Directives.Directive.{Clause, Ordered, OrderedLoops, Reduction, ScheduledBy, Directive, ParallelFor, Worksharing, ScanInclusive, ScanExclusive}
use Rattle.semantics.specs.Directives.Clauses.{inscan_of}
use Rattle.pragma.specs.Clauses.{Said, loop_of}
use Rattle.pragma.specs.Parallel.{associated}
use Rattle.pragma_attach.specs.Standing.{directive_on}

-- ---- `scan` directives

-- whether it is inclusive, and the name that it lists
pub record ScanSaid : Type 0 where
  pub inclusive : Bool
  pub name : Name

abbrev pub scan_said : Option (Directive Name) → Option ScanSaid
scan_said (Some (ScanInclusive w)) = Some (record { inclusive = true; name = w })
scan_said (Some (ScanExclusive w)) = Some (record { inclusive = false; name = w })
scan_said _ = None

-- that on the line of this number
abbrev pub scan_on : List ℕ → ℕ → Option ScanSaid
scan_on text n = scan_said (directive_on text n)

-- ---- the clauses of a scan's loop

-- a loop's directive (OpenMP 5.2, 11.5 and 17)
abbrev pub is_loop : Option (Directive Name) → Bool
is_loop (Some (ParallelFor cs)) = true
is_loop (Some (Worksharing cs)) = true
is_loop _ = false

abbrev pub is_loop_line : List ℕ → ℕ → Bool
is_loop_line text n = is_loop (directive_on text n)

-- one loop (OpenMP 5.2, 4.4.3)
abbrev pub is_one : Option Said → Bool
is_one None = false
is_one (Some said) = associated said.1 == 1

-- so many a directive associates
abbrev pub associates_one : Option (Directive Name) → Bool
associates_one None = false
associates_one (Some d) = is_one (loop_of d)

abbrev pub associates_one_on : List ℕ → ℕ → Bool
associates_one_on text n = associates_one (directive_on text n)

-- beside that of a scan: no schedule, no order and no other reduction
abbrev pub suits_scan : Clause Variable → Bool
suits_scan (ScheduledBy k) = false
suits_scan Ordered = false
suits_scan (OrderedLoops n) = false
suits_scan (Reduction op xs) = false
suits_scan _ = true

-- one variable with its operator
abbrev pub sole_of : List (Variable × ReduceOp) → Option (Variable × ReduceOp)
sole_of (r ∷ []) = Some r
sole_of _ = None

-- what these clauses reduce by a scan, each with its operator
abbrev pub scanned : List (Clause Variable) → List (Variable × ReduceOp)
scanned cs = flat_map inscan_of cs

-- ---- names

-- a declaration at file scope has this name
abbrev pub is_named : Name → Option Declaration → Bool
is_named name None = false
is_named name (Some d) = same_indexes d.name name

abbrev mutual
  -- a statement declares a variable by this name (C11 6.2.1)
  pub declares : Variable → Name → Stmt → Bool
  declares x name (Assign y is e) = false
  declares x name (Update y is op e) = false
  declares x name (If c a) = declares x name a
  declares x name (IfElse c a b) = declares x name a || declares x name b
  declares x name (For y own start test step body) = ((y == x) && same_indexes own name) || declares x name body
  declares x name (Block items) = declare x name items
  declares x name (Print parts) = false

  -- or a block's items do
  pub declare : Variable → Name → Items → Bool
  declare x name no_items = false
  declare x name (mark n rest) = declare x name rest
  declare x name (local y own start rest) = ((y == x) && same_indexes own name) || declare x name rest
  declare x name (stmt s rest) = declares x name s || declare x name rest

-- a variable of a kernel has this name; of the visible ones no two share one (C11 6.2.1)
abbrev pub is_called : Kernel → Variable → Name → Bool
is_called k x name = is_named name (slice_get k.variables x) || declare x name k.body
