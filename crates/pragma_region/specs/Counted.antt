-- The clauses that count for a loop: those of its own directive, and those of the `parallel` round it. (OpenMP 5.2, 5.1.1 and 10.1)
use Rattle.std.specs.Prelude.{ℕ, nat_eq, if◌then◌else◌, List, [], ◌∷◌, ◌++◌, Option, Some, None}
use Rattle.semantics.specs.Tree.{Stmt, Assign, Update, If, IfElse, For, Block, Print, Items, no_items, mark, local, stmt, Kernel}
use Rattle.pragma_named.specs.Known.{Lines}
use Rattle.pragma_region.specs.Regions.{is_region_line}

-- the line of a loop, and that of the `parallel` round it
abbrev pub Enclosed : Type 0
Enclosed = List (ℕ × ℕ)

-- the lines in the block of the `parallel` on a line
abbrev pub lines_within : ℕ → Items → Enclosed
lines_within region no_items = []
lines_within region (mark n rest) = (n, region) ∷ lines_within region rest
lines_within region (local x name start rest) = lines_within region rest
lines_within region (stmt s rest) = lines_within region rest

-- of a block alone
abbrev pub block_lines : ℕ → Stmt → Enclosed
block_lines region (Block items) = lines_within region items
block_lines region _ = []

-- behind the line before, if one stands there: those of its block where it is a `parallel`, else those inside the statement
abbrev pub enclosed_behind : List ℕ → Option ℕ → Stmt → Enclosed → Enclosed
enclosed_behind text None s inside = inside
enclosed_behind text (Some n) s inside = if is_region_line text n then block_lines n s else inside

abbrev mutual
  -- those of the regions in a statement
  pub enclosed_in : List ℕ → Stmt → Enclosed
  enclosed_in text (Assign x is e) = []
  enclosed_in text (Update x is op e) = []
  enclosed_in text (If c a) = enclosed_in text a
  enclosed_in text (IfElse c a b) = enclosed_in text a ++ enclosed_in text b
  enclosed_in text (For x name start test step body) = enclosed_in text body
  enclosed_in text (Block items) = enclosed_among text None items
  enclosed_in text (Print parts) = []

  -- before: the number of the line before
  pub enclosed_among : List ℕ → Option ℕ → Items → Enclosed
  enclosed_among text before no_items = []
  enclosed_among text before (mark n rest) = enclosed_among text (Some n) rest
  enclosed_among text before (local x name start rest) = enclosed_among text None rest
  enclosed_among text before (stmt s rest) = enclosed_behind text before s (enclosed_in text s) ++ enclosed_among text None rest

-- the clauses of each line, where those of one line count for another too
abbrev pub with_enclosing : ℕ → ℕ → Lines → Lines
with_enclosing n region lines m = if nat_eq n m then lines region ++ lines n else lines m

-- where it is so of each loop's line and that of the `parallel` round it
abbrev pub counted : Enclosed → Lines → Lines
counted [] lines = lines
counted (e ∷ es) lines = counted es (with_enclosing e.0 e.1 lines)

-- in a kernel
abbrev pub counted_in : List ℕ → Kernel → Lines → Lines
counted_in text k lines = counted (enclosed_among text None k.body) lines
