-- One row more is added.
use Rattle.std.proofs.Common.{◌≡◌, ℕ, List, ◌+◌, ◌*◌, ap, ◌∙◌, arith}
use Rattle.std.specs.Prelude.{min}
use Rattle.team_scans.specs.Operands.{added}
use Rattle.team_scans.proofs.Sums.{added_more}
use Rattle.team_scans.proofs.adding.add_rows.Goals as goal

pub loop-row-preserved : goal.loop-row-preserved
loop-row-preserved g c =
    let s = c.args.prefixes in
    let done = c.loop-row.row * 256 in
    let n = c.min-n.result in
    let cells = g.M.Cells.cells c.args.cells.now in
    let so_far : min c.args.count done ≡ done = omega (arith, c.if-done-count.false) in
    let more : done + n ≡ min c.args.count ((c.loop-row.row + 1) * 256) = omega (arith, c.min-n.ensures, c.if-done-count.false) in
    let sum : c.loop-row.sum ≡ added s cells c.args.from 0 done = c.loop-row.invariant.sum ∙ ap (added s cells c.args.from 0) so_far in
    record {
      sum =
          c.add_row-sum.ensures.sum
          ∙ ap (λ (l : List ℕ). added s l (c.args.from + done) c.loop-row.sum n) c.loop-row.invariant.cells
          ∙ ap (λ (v : ℕ). added s cells (c.args.from + done) v n) sum
          ∙ added_more s cells c.args.from done n
          ∙ ap (added s cells c.args.from 0) more;
      cells = c.add_row-sum.ensures.cells ∙ c.loop-row.invariant.cells;
      rows = c.add_row-sum.ensures.rows ∙ c.loop-row.invariant.rows;
      room = c.add_row-sum.ensures.room ∙ c.loop-row.invariant.room;
      kept = c.add_row-sum.ensures.kept ∙ c.loop-row.invariant.kept;
    }
