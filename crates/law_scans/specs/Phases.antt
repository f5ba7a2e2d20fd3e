-- A body in two phases. (OpenMP 5.2, 5.6)
use Rattle.std.specs.Prelude.{Bool, not, ◌≡◌, ◌==◌, ◌&&◌, ◌||◌, if◌then◌else◌, List, [], ◌∷◌, ◌++◌, flat_map, Some, None}
use Rattle.std.specs.List.{list_all}
use Rattle.semantics.specs.Meaning.State.{State}
use Rattle.semantics.specs.Meaning.Runs.{then_from, run}
use Rattle.semantics.specs.Meaning.Agrees.{is_among}
use Rattle.semantics.specs.Loops.Operator.{ReduceOp}
use Rattle.semantics.specs.Directives.Naming.{named_expr, named_exprs, named_cond, named_source, named_start, named_step, named_part}
use Rattle.semantics.specs.Tree.{Variable, Stmt, Assign, Update, If, IfElse, For, Block, Print, Items, no_items, mark, local, stmt}
use Rattle.law_roles.specs.Updates.{reduces}

-- the items of one phase, and those of the other behind them
abbrev pub joined_items : Items → Items → Items
joined_items no_items back = back
joined_items (mark line rest) back = mark line (joined_items rest back)
joined_items (local x name start rest) back = local x name start (joined_items rest back)
joined_items (stmt a rest) back = stmt a (joined_items rest back)

-- a block of both does what the one does, and then the other (C11 6.8.2)
abbrev pub PhasesRunInTurn : Type 0
PhasesRunInTurn = (front back : Items) (s : State) → run (Block (joined_items front back)) s ≡ then_from s (run (Block front) s) (run (Block back))

-- ---- what the phases share

abbrev mutual
  -- the names that a statement writes
  pub written_in : Stmt → List Variable
  written_in (Assign x is e) = x ∷ []
  written_in (Update x is op e) = x ∷ []
  written_in (If c a) = written_in a
  written_in (IfElse c a b) = written_in a ++ written_in b
  written_in (For x name start test step body) = x ∷ written_in body
  written_in (Block items) = written_among items
  written_in (Print parts) = []

  -- and items do: a local that is declared with a value is written
  pub written_among : Items → List Variable
  written_among no_items = []
  written_among (mark line rest) = written_among rest
  written_among (local x name None rest) = written_among rest
  written_among (local x name (Some e) rest) = x ∷ written_among rest
  written_among (stmt a rest) = written_in a ++ written_among rest

abbrev mutual
  -- the names that a statement reads
  pub read_in : Stmt → List Variable
  read_in (Assign x is e) = named_exprs is ++ named_source e
  read_in (Update x is op e) = x ∷ (named_exprs is ++ named_expr e)
  read_in (If c a) = named_cond c ++ read_in a
  read_in (IfElse c a b) = named_cond c ++ read_in a ++ read_in b
  read_in (For x name start test step body) = named_source start ++ named_cond test ++ named_step step ++ read_in body
  read_in (Block items) = read_among items
  read_in (Print parts) = flat_map named_part parts

  -- and items do
  pub read_among : Items → List Variable
  read_among no_items = []
  read_among (mark line rest) = read_among rest
  read_among (local x name start rest) = named_start start ++ read_among rest
  read_among (stmt a rest) = read_in a ++ read_among rest

-- no name but x that the one part writes is read in the other
abbrev pub spares : Variable → Items → Items → Bool
spares x writer reader = list_all (λ y. y == x || not (is_among (read_among reader) y)) (written_among writer)

-- the input phase stands in front of `scan inclusive`, and behind `scan exclusive`
abbrev pub input_of : Bool → Items → Items → Items
input_of inclusive front back = if inclusive then front else back

abbrev pub scan_of : Bool → Items → Items → Items
scan_of inclusive front back = if inclusive then back else front

-- parts that share nothing but x, which the input phase updates by its operator alone, and the scan phase only reads
abbrev pub keeps_phases : Variable → ReduceOp → Bool → Items → Items → Bool
keeps_phases x op inclusive front back =
    reduces ((x, op) ∷ []) (Block (input_of inclusive front back)) && not (is_among (written_among (scan_of inclusive front back)) x)
    && spares x front back && spares x back front

-- declarations alone, without their values
abbrev pub bare : Items → Items
bare no_items = no_items
bare (mark line rest) = bare rest
bare (local x name start rest) = local x name None (bare rest)
bare (stmt a rest) = bare rest

-- what the first pass runs: the input phase, with what it may name of locals that the scan phase before it declares
abbrev pub first_items : Bool → Items → Items → Items
first_items inclusive front back = if inclusive then front else joined_items (bare front) back
