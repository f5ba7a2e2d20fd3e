-- Worked rows of scans: bodies in two phases, and what counts as one.
use Rattle.std.specs.Prelude.{true, false, ◌≡◌, [], Some, None}
use Rattle.semantics.specs.Tree.{Object, Plus, no_exprs, more_exprs, Number, Assign, Update, Stmt, Block, Items, no_items, local, stmt}
use Rattle.semantics.specs.Loops.Operator.{Sum, Product}
use Rattle.law_scans.specs.Phases.{joined_items, keeps_phases, first_items}

-- s is variable 0, a variable 1, b variable 2, i variable 3: s += a[i];
abbrev pub adding : Items
adding = stmt (Update 0 no_exprs Plus (Object 1 (more_exprs (Object 3 no_exprs) no_exprs))) no_items

-- b[i] = s;
abbrev pub telling : Items
telling = stmt (Assign 2 (more_exprs (Object 3 no_exprs) no_exprs) (Number (Object 0 no_exprs))) no_items

-- uint64_t t = s; b[i] = t; with t as variable 4
abbrev pub holding : Items
holding = local 4 [] (Some (Number (Object 0 no_exprs))) (stmt (Assign 2 (more_exprs (Object 3 no_exprs) no_exprs) (Number (Object 4 no_exprs))) no_items)

-- the whole body
abbrev pub prefix_sums : Stmt
prefix_sums = Block (joined_items adding telling)

pub record ScanRows : Type 0 where
  pub whole : prefix_sums ≡ Block (stmt (Update 0 no_exprs Plus (Object 1 (more_exprs (Object 3 no_exprs) no_exprs))) telling)
  pub inclusive : keeps_phases 0 Sum true adding telling ≡ true
  pub exclusive : keeps_phases 0 Sum false telling adding ≡ true
  -- the phases in the other order, another operator, a phase that assigns the scan variable, and one that reads what the other writes
  pub turned : keeps_phases 0 Sum true telling adding ≡ false
  pub other : keeps_phases 0 Product true adding telling ≡ false
  pub assigned : keeps_phases 0 Sum true adding (stmt (Assign 0 no_exprs (Number (Object 1 no_exprs))) telling) ≡ false
  pub shared : keeps_phases 0 Sum true (stmt (Assign 5 no_exprs (Number (Object 1 no_exprs))) adding) (stmt (Assign 6 no_exprs (Number (Object 5 no_exprs))) telling) ≡ false
  -- the first pass declares the locals of the scan phase, without their values
  pub first : first_items false holding adding ≡ local 4 [] None adding
