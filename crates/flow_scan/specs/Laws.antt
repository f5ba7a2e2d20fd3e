-- Scans in the tree from which their lines are left out, and which the later passes judge. (OpenMP 5.2, 5.6)
use Rattle.std.specs.Prelude.{ℕ, Bool, true, ◌≡◌, List, [], map, Some, Contains}
use Rattle.std.specs.List.{list_all}
use Rattle.semantics.specs.Tree.{Name, Variable, Cond, Source, Increment, Stmt, For, Block, Items, Kernel}
use Rattle.semantics.specs.Loops.Operator.{ReduceOp}
use Rattle.semantics.specs.Directives.Clauses.{is_scan}
use Rattle.law_roles.specs.Sharing.{are_different}
use Rattle.law_scans.specs.Phases.{joined_items, keeps_phases}
use Rattle.pragma.specs.Parallel.{AskedOfLoop}
use Rattle.pragma.specs.Plain.{IsDirected}
use Rattle.pragma_named.specs.Known.{Lines}
use Rattle.pragma_region.specs.Regions.{alone}
use Rattle.flow.specs.Roles.{ItemsHaveBy}
use Rattle.flow_scan.specs.Lines.{suits_scan, sole_of, scanned}
use Rattle.flow_scan.specs.Parts.{count}
use Rattle.flow_scan.specs.Scans.{ScanPart, scans_rightly, scans_of}

-- the loop of a scan without the `scan` line: the items of both phases stand in its body one behind the other, and it is told how many are in front
pub record HasPhases (text : List ℕ) (lines : Lines) (k : Kernel) (line : ℕ) (s : Stmt) : Type 0 where
  pub variable : Variable
  pub operator : ReduceOp
  pub reduced : sole_of (scanned (lines line)) ≡ Some (variable, operator)
  pub suits : list_all suits_scan (lines line) ≡ true
  pub counter : Variable
  pub name : Name
  pub start : Source
  pub test : Cond
  pub step : Increment
  pub front : Items
  pub back : Items
  pub is : s ≡ For counter name start test step (Block (joined_items front back))
  pub inclusive : Bool
  pub told : Contains (scans_of text lines k) (record { line = line; inclusive = inclusive; front = count front })
  pub keeps : keeps_phases variable operator inclusive front back ≡ true

-- so is the one loop behind a line with the reduction of a scan
abbrev pub ScanThere : List ℕ → Lines → Kernel → ℕ → AskedOfLoop
ScanThere text lines k line serial n s = is_scan (lines line) ≡ true → (n ≡ 1) × HasPhases text lines k line s

-- a kernel whose scans are right has such loops, once the lines that are left out are gone
abbrev pub ScansStandAlone : Type 0
ScansStandAlone =
    (text : List ℕ) (lines : Lines) (k : Kernel) → scans_rightly text lines k ≡ true → IsDirected text (alone text k)
    → ItemsHaveBy text (ScanThere text lines k) [] (alone text k).body

-- where no two loops of scans stand behind lines of one number, one is told of each
abbrev pub LinesTellScans : Type 0
LinesTellScans =
    (parts : List ScanPart) (a b : ScanPart) → are_different (map (λ (p : ScanPart). p.line) parts) ≡ true → Contains parts a → Contains parts b → a.line ≡ b.line → a ≡ b
