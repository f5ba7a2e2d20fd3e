use Rattle.std.proofs.Common.{◌+◌, ◌≤◌, List, length, map, ap, subst, sym, ◌∙◌}
use Rattle.store.specs.Flat.{values_of}
use Rattle.store.specs.Filling.{row_of}
use Rattle.store.specs.Kept.{Kept, overlaid}
use Rattle.store.proofs.Rows.{length_row}
use Rattle.store.proofs.Writing.{length_overlaid}
use Rattle.lower_op.proofs.Refilled.{filled_values, filled_lengths}
use Rattle.lower_op.proofs.Stretching.{overlaid_beside}
use Rattle.lower_op.proofs.memory.StoreCells.fill.Goals as goal

pub returns-clause-filled : goal.returns-clause-filled
returns-clause-filled g c _ =
    let old = values_of c.args.self.now in
    let row = row_of (g.F.Filler.number c.args.filler.now) c.args.count in
    let inside : c.args.first + length row ≤ length old = subst (λ (n : _). c.args.first + n ≤ length old) (sym (length_row (g.F.Filler.number c.args.filler.now) c.args.count)) (subst (λ (cs : List _). c.args.first + c.args.count ≤ length cs) c.cells.ensures.value (c.are_there.ensures c.if-not-are_there.false)) in
    ap values_of c.fill.ensures
    ∙ filled_values (overlaid old c.args.first row) c.args.self.now (length_overlaid old c.args.first row inside)
    ∙ overlaid_beside old c.args.first row inside

pub returns-clause-kept : goal.returns-clause-kept
returns-clause-kept g c = ap (map (λ (k : Kept). k.lengths)) c.fill.ensures ∙ filled_lengths (overlaid (values_of c.args.self.now) c.args.first (row_of (g.F.Filler.number c.args.filler.now) c.args.count)) c.args.self.now
