use Rattle.std.proofs.Common.{ap, sym, ◌∙◌, ◌<◌, length, arith}
use Rattle.std.proofs.lemmas.Option.{get_or_from_slice_get}
use Rattle.semantics.specs.Meaning.Value.{operate, values}
use Rattle.ktree.specs.View.{exprs_of, binary_of}
use Rattle.store.proofs.Writing.{same_lengths}
use Rattle.seqrun_value.specs.Standing.{standing}
use Rattle.seqrun.specs.Ran.{lengths_of}
use Rattle.seqrun.proofs.WriteLemmas.{update_there, update_within, element_operates, update_room, element_updated}
use Rattle.seqrun.proofs.writing.update_element.Goals as goal

pub place-at-requires : goal.place-at-requires
place-at-requires c =
    let s = standing c.args.frame.now c.args.store.now in
    update_there c.args.frame.now c.args.store.now c.args.variable.0 (values s (exprs_of c.args.subscripts.now)) c.array-array.result c.requires.outside (sym (get_or_from_slice_get c.args.store.now c.args.variable.0 c.array-array.result c.array-array.result c.array-array.ensures)) (operate (binary_of c.args.op)) c.args.n c.requires.runs

pub bounds-cells-at : goal.bounds-cells-at
bounds-cells-at c =
    let s = standing c.args.frame.now c.args.store.now in
    rw c.values-cells.ensures.value (update_within c.args.frame.now c.args.store.now c.args.variable.0 (values s (exprs_of c.args.subscripts.now)) c.array-array.result c.requires.outside (sym (get_or_from_slice_get c.args.store.now c.args.variable.0 c.array-array.result c.array-array.result c.array-array.ensures)) (operate (binary_of c.args.op)) c.args.n c.requires.runs c.place-at.result c.place-at.ensures)

pub offset_bounds-cells-at : goal.offset_bounds-cells-at
offset_bounds-cells-at c =
    let s = standing c.args.frame.now c.args.store.now in
    let below : c.place-at.result < length c.values-cells.result.now = rw c.values-cells.ensures.value (update_within c.args.frame.now c.args.store.now c.args.variable.0 (values s (exprs_of c.args.subscripts.now)) c.array-array.result c.requires.outside (sym (get_or_from_slice_get c.args.store.now c.args.variable.0 c.array-array.result c.array-array.result c.array-array.ensures)) (operate (binary_of c.args.op)) c.args.n c.requires.runs c.place-at.result c.place-at.ensures) in
    omega (arith, below, c.values-cells.type_inv.1)

pub binary_value-new-requires : goal.binary_value-new-requires
binary_value-new-requires c =
    let s = standing c.args.frame.now c.args.store.now in
    rw c.values-cells.ensures.value (element_operates c.args.frame.now c.args.store.now c.args.variable.0 (values s (exprs_of c.args.subscripts.now)) c.array-array.result c.requires.outside (sym (get_or_from_slice_get c.args.store.now c.args.variable.0 c.array-array.result c.array-array.result c.array-array.ensures)) (operate (binary_of c.args.op)) c.args.n c.requires.runs c.place-at.result c.place-at.ensures)

pub set-requires : goal.set-requires
set-requires c =
    let s = standing c.args.frame.now c.args.store.now in
    update_room c.args.frame.now c.args.store.now c.args.variable.0 (values s (exprs_of c.args.subscripts.now)) c.array-array.result c.requires.outside (sym (get_or_from_slice_get c.args.store.now c.args.variable.0 c.array-array.result c.array-array.result c.array-array.ensures)) (operate (binary_of c.args.op)) c.args.n c.requires.runs c.place-at.result c.binary_value-new.result c.place-at.ensures
    (rw c.values-cells.ensures.value at c.binary_value-new.ensures)

pub returns-clause-done : goal.returns-clause-done
returns-clause-done c =
    let s = standing c.args.frame.now c.args.store.now in
    rw c.set.ensures
    (element_updated c.args.frame.now c.args.store.now c.args.variable.0 (values s (exprs_of c.args.subscripts.now)) c.array-array.result c.requires.outside (sym (get_or_from_slice_get c.args.store.now c.args.variable.0 c.array-array.result c.array-array.result c.array-array.ensures)) (operate (binary_of c.args.op)) c.args.n c.requires.runs c.place-at.result c.binary_value-new.result c.place-at.ensures
    (rw c.values-cells.ensures.value at c.binary_value-new.ensures))

pub returns-clause-shape : goal.returns-clause-shape
returns-clause-shape c = ap lengths_of c.set.ensures ∙ same_lengths _ _ _ _
