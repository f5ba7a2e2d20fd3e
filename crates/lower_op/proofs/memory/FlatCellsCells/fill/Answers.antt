use Rattle.std.proofs.Common.{◌≡◌, ◌+◌, ◌≤◌, List, length, rules, ap, subst, sym, ◌∙◌}
use Rattle.std.proofs.lemmas.List.{with_items_is}
use Rattle.store.specs.Filling.{row_of}
use Rattle.store.specs.Kept.{overlaid}
use Rattle.store.proofs.Rows.{length_row}
use Rattle.store.proofs.Writing.{length_overlaid}
use Rattle.lower_op.proofs.Stretching.{overlaid_beside}
use Rattle.lower_op.proofs.memory.FlatCellsCells.fill.Goals as goal

pub returns-clause-filled : goal.returns-clause-filled
returns-clause-filled g c _ =
    let v = c.args.self.now.numbers in
    let row = row_of (g.F.Filler.number c.args.filler.now) c.args.count in
    let inside : c.args.first + length row ≤ length v.items = subst (λ (n : _). c.args.first + n ≤ length v.items) (sym (length_row (g.F.Filler.number c.args.filler.now) c.args.count)) (search rules) in
    let made : c.fill_cells.new.cells ≡ overlaid v.items c.args.first row = c.fill_cells.ensures ∙ ap (λ (cs : List _). overlaid cs c.args.first row) c.deref_mut.ensures.value in
    with_items_is v c.fill_cells.new.cells (ap length made ∙ length_overlaid v.items c.args.first row inside ∙ sym v.ok.0)
    ∙ made
    ∙ overlaid_beside v.items c.args.first row inside
