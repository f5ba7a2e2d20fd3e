use Rattle.std.proofs.Common.{◌≡◌, ◌*◌, length}
use Rattle.std.specs.Prelude.{min}
use Rattle.team_scans.specs.Operands.{added}
use Rattle.team_scans.proofs.adding.add_rows.Given as goal

-- the turns so far are added
abbrev pub invariant-loop-row : goal.invariant-loop-row
invariant-loop-row g l = record {
  sum : l.sum ≡ added l.prefixes (g.M.Cells.cells l.initial.cells) l.from 0 (min l.count (l.row * 256));
  cells : g.M.Cells.cells l.cells ≡ g.M.Cells.cells l.initial.cells;
  rows : length l.bench ≡ length l.initial.bench;
  room : length l.buffer ≡ 256;
  kept : g.M.Cells.shape l.cells ≡ g.M.Cells.shape l.initial.cells;
}
