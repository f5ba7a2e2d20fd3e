-- Scans where they may stand, each in a loop of two phases. (OpenMP 5.2, 5.6)
use Rattle.std.specs.Prelude.{ℕ, Bool, true, false, not, ◌&&◌, if◌then◌else◌, List, [], ◌∷◌, ◌++◌, Option, Some, None}
use Rattle.std.specs.List.{list_all}
use Rattle.semantics.specs.Tree.{Variable, Stmt, Assign, Update, If, IfElse, For, Block, Print, Items, no_items, mark, local, stmt, Kernel}
use Rattle.semantics.specs.Loops.Operator.{ReduceOp}
use Rattle.semantics.specs.Directives.Directive.{Clause}
use Rattle.semantics.specs.Directives.Clauses.{is_scan}
use Rattle.law_scans.specs.Phases.{keeps_phases}
use Rattle.pragma_named.specs.Known.{Lines}
use Rattle.pragma_region.specs.Regions.{is_scan_line}
use Rattle.nest_lines.specs.Lines.{line_before}
use Rattle.nest_lines.specs.Inner.{have_line}
use Rattle.nest_lines.specs.declared.inner.InnerLine.TheVariants.{Scan}
use Rattle.flow_scan.specs.Lines.{is_loop_line, associates_one_on, suits_scan, sole_of, scanned, is_called}
use Rattle.flow_scan.specs.Parts.{Parts, body_parts, has_statement, count}

-- a body in two phases, with a statement in each, and no further `scan` line; its own one lists the variable of the scan
abbrev pub has_phases : List ℕ → Kernel → Option (Variable × ReduceOp) → Option Parts → Bool
has_phases text k (Some r) (Some p) =
    has_statement p.front && has_statement p.back && is_called k r.0 p.said.name && not (have_line text Scan p.front) && not (have_line text Scan p.back)
    && keeps_phases r.0 r.1 p.said.inclusive p.front p.back
has_phases text k _ _ = false

-- the loop of a scan behind the line of this number, by the clauses that count for it: one loop
abbrev pub scans_loop : List ℕ → Kernel → ℕ → List (Clause Variable) → Stmt → Bool
scans_loop text k n cs s = associates_one_on text n && list_all suits_scan cs && has_phases text k (sole_of (scanned cs)) (body_parts text s)

-- a line is that of a scan's loop
abbrev pub is_scan_loop : List ℕ → Lines → ℕ → Bool
is_scan_loop text lines n = is_loop_line text n && is_scan (lines n)

-- a statement behind a line, or behind none; inside: what is judged where that is no scan's loop
abbrev pub scans_behind : List ℕ → Kernel → Lines → Option ℕ → Stmt → Bool → Bool
scans_behind text k lines None s inside = inside
scans_behind text k lines (Some n) s inside = if is_scan_loop text lines n then scans_loop text k n (lines n) s else inside

abbrev mutual
  -- each `scan` line in a statement is that of a scan's loop, and each of these has its phases
  pub scans_in : List ℕ → Kernel → Lines → Stmt → Bool
  scans_in text k lines (Assign x is e) = true
  scans_in text k lines (Update x is op e) = true
  scans_in text k lines (If c a) = scans_in text k lines a
  scans_in text k lines (IfElse c a b) = scans_in text k lines a && scans_in text k lines b
  scans_in text k lines (For x name start test step body) = scans_in text k lines body
  scans_in text k lines (Block items) = scans_among text k lines None items
  scans_in text k lines (Print parts) = true

  -- before: the number of the line before these items
  pub scans_among : List ℕ → Kernel → Lines → Option ℕ → Items → Bool
  scans_among text k lines before no_items = true
  scans_among text k lines before (mark n rest) = not (is_scan_line text n) && scans_among text k lines (line_before text before n) rest
  scans_among text k lines before (local x name start rest) = scans_among text k lines None rest
  scans_among text k lines before (stmt s rest) = scans_behind text k lines before s (scans_in text k lines s) && scans_among text k lines None rest

-- so it is of a kernel with all its lines, by the clauses that count for each
abbrev pub scans_rightly : List ℕ → Lines → Kernel → Bool
scans_rightly text lines k = scans_among text k lines None k.body

-- ---- the loops of scans

-- where its line stands, whether its scan is inclusive, and how many declarations and statements stand in front of its `scan` line
pub record ScanPart : Type 0 where
  pub line : ℕ
  pub inclusive : Bool
  pub front : ℕ

-- of a body, where it is cut
abbrev pub parts_at : ℕ → Option Parts → List ScanPart
parts_at n None = []
parts_at n (Some p) = record { line = n; inclusive = p.said.inclusive; front = count p.front } ∷ []

abbrev pub parts_behind : List ℕ → Lines → Option ℕ → Stmt → List ScanPart → List ScanPart
parts_behind text lines None s inside = inside
parts_behind text lines (Some n) s inside = if is_scan_loop text lines n then parts_at n (body_parts text s) else inside

abbrev mutual
  -- those in a statement, in the order of the text
  pub parts_in : List ℕ → Lines → Stmt → List ScanPart
  parts_in text lines (Assign x is e) = []
  parts_in text lines (Update x is op e) = []
  parts_in text lines (If c a) = parts_in text lines a
  parts_in text lines (IfElse c a b) = parts_in text lines a ++ parts_in text lines b
  parts_in text lines (For x name start test step body) = parts_in text lines body
  parts_in text lines (Block items) = parts_among text lines None items
  parts_in text lines (Print parts) = []

  -- before: the number of the line before these items
  pub parts_among : List ℕ → Lines → Option ℕ → Items → List ScanPart
  parts_among text lines before no_items = []
  parts_among text lines before (mark n rest) = parts_among text lines (line_before text before n) rest
  parts_among text lines before (local x name start rest) = parts_among text lines None rest
  parts_among text lines before (stmt s rest) = parts_behind text lines before s (parts_in text lines s) ++ parts_among text lines None rest

-- those of a kernel
abbrev pub scans_of : List ℕ → Lines → Kernel → List ScanPart
scans_of text lines k = parts_among text lines None k.body
