-- The cells are the operands.
use Rattle.std.proofs.Common.{◌+◌, sym, ◌∙◌}
use Rattle.std.specs.Prelude.{slice_index}
use Rattle.std.proofs.lemmas.Option.{IfSome_then}
use Rattle.semantics.specs.Tree
use Rattle.lower_machine.specs.Machine.{operate_or_zero}
use Rattle.lane_rows.specs.Lanes.{stepped}
use Rattle.lane_work.proofs.Folds.{folded_alike}
use Rattle.team_scans.specs.Operands.{operand_of}
use Rattle.team_scans.proofs.adding.add_cells.Goals as goal

pub returns : goal.returns
returns g c =
    let s = c.args.prefixes in
    let a = c.in_ok-places.places in
    let cells = g.M.Cells.cells c.args.cells.now in
    IfSome_then c.fold_cells.result c.fold_cells.ensures
    (λ sum is. is ∙ folded_alike (operate_or_zero Tree.Plus) 0 (λ k. slice_index cells (stepped a.start a.step k)) (λ k. operand_of s cells (c.args.from + k)) c.args.count (λ k lt. sym (c.in_ok-places.ensures cells k)))
