use Rattle.std.proofs.Common.{rules, ◌+◌, ◌*◌, ◌<◌, length, get_or, Some, IsSome, ap, ◌∙◌, subst, arith}
use Rattle.semantics.specs.Meaning.Value.{value, values}
use Rattle.ktree.specs.View.{expr_of, exprs_of}
use Rattle.ktree.specs.declared.expression.Expr.{the_lemmas}
use Rattle.seqrun_value.specs.Standing.{standing, slot_of}
use Rattle.seqrun_value.proofs.ValueLemmas.{product_below, turn_below, way_ends, object_among, among_there, found_within, found_value}
use Rattle.seqrun_value.proofs.expression.+value.Goals as goal

pub place_by_walk-overflow_mul-at : goal.place_by_walk-overflow_mul-at
place_by_walk-overflow_mul-at t c =
    let below : c.loop-d.at * get_or c.lengths-lengths.result.now c.loop-d.d 0 < length c.values-cells.result.now = rw (c.lengths-lengths.ensures, c.values-cells.ensures.value) (product_below c.args.array.now (standing c.args.frame.now c.args.store.now) c.args.subscripts.now c.loop-d.d c.loop-d.at c.requires c.loop-d.invariant c.index-subscripts-d.result c.loop-d-test.true c.index-subscripts-d.is) in
    omega (arith, below, c.values-cells.type_inv.0)

pub place_by_walk-overflow_add-at : goal.place_by_walk-overflow_add-at
place_by_walk-overflow_add-at t c =
    let below : c.loop-d.at * get_or c.lengths-lengths.result.now c.loop-d.d 0 + c.index_value.result < length c.values-cells.result.now = rw (c.lengths-lengths.ensures, c.values-cells.ensures.value) (turn_below c.args.array.now (standing c.args.frame.now c.args.store.now) c.args.subscripts.now c.loop-d.d c.loop-d.at c.requires c.loop-d.invariant c.index-subscripts-d.result c.index_value.result c.loop-d-test.true c.index-subscripts-d.is c.index_value.ensures) in
    omega (arith, below, c.values-cells.type_inv.0)

pub place_by_walk-returns : goal.place_by_walk-returns
place_by_walk-returns t c = way_ends c.args.array.now (standing c.args.frame.now c.args.store.now) c.args.subscripts.now c.loop-d.d c.loop-d.at c.requires c.loop-d.invariant c.loop-d-test.false

pub element-offset_bounds-cells-at : goal.element-offset_bounds-cells-at
element-offset_bounds-cells-at t c =
    let below : c.place-at.result < length c.values-cells.result.now = rw c.values-cells.ensures.value (found_within c.args.array.now (values (standing c.args.frame.now c.args.store.now) (exprs_of c.args.subscripts.now)) c.place-at.result c.requires c.place-at.ensures) in
    omega (arith, below, c.values-cells.type_inv.1)

pub element-bounds-cells-at : goal.element-bounds-cells-at
element-bounds-cells-at t c =
    rw c.values-cells.ensures.value (found_within c.args.array.now (values (standing c.args.frame.now c.args.store.now) (exprs_of c.args.subscripts.now)) c.place-at.result c.requires c.place-at.ensures)

pub element-returns : goal.element-returns
element-returns t c =
    rw c.values-cells.ensures.value (found_value c.args.array.now (values (standing c.args.frame.now c.args.store.now) (exprs_of c.args.subscripts.now)) c.place-at.result c.requires c.place-at.ensures)

pub value-object-requires : goal.value-object-requires
value-object-requires t c =
    let out = c.slot.ensures ∙ ap (λ s. slot_of (Some s)) c.in-Outside.is in
    let h = subst (λ e. IsSome (value (standing c.args.frame.now c.args.store.now) (expr_of e))) c.in-Object.is c.requires in
    let is = object_among c.args.frame.now c.args.store.now c.in-Object.x c.in-Object.subscripts c.in-Object._mention out in
    (search (rules, the_lemmas), rw c.deref.ensures.value (subst IsSome is h))

pub value-returns-in-Outside : goal.value-returns-in-Outside
value-returns-in-Outside t c =
    let out = c.slot.ensures ∙ ap (λ s. slot_of (Some s)) c.in-Outside.is in
    let is = object_among c.args.frame.now c.args.store.now c.in-Object.x c.in-Object.subscripts c.in-Object._mention out in
    ap (λ e. value (standing c.args.frame.now c.args.store.now) (expr_of e)) c.in-Object.is ∙ is ∙ (rw c.deref.ensures.value at c.object.ensures)

pub operand-object-requires : goal.operand-object-requires
operand-object-requires t c =
    let out = c.slot.ensures ∙ ap (λ s. slot_of (Some s)) c.in-Outside.is in
    let h = subst (λ e. IsSome (value (standing c.args.frame.now c.args.store.now) (expr_of e))) c.in-Object.is c.requires in
    let is = object_among c.args.frame.now c.args.store.now c.in-Object.x c.in-Object.subscripts c.in-Object._mention out in
    (search (rules, the_lemmas), rw c.deref.ensures.value (subst IsSome is h))

pub operand-returns-in-Outside : goal.operand-returns-in-Outside
operand-returns-in-Outside t c =
    let out = c.slot.ensures ∙ ap (λ s. slot_of (Some s)) c.in-Outside.is in
    let is = object_among c.args.frame.now c.args.store.now c.in-Object.x c.in-Object.subscripts c.in-Object._mention out in
    ap (λ e. value (standing c.args.frame.now c.args.store.now) (expr_of e)) c.in-Object.is ∙ is ∙ (rw c.deref.ensures.value at c.object.ensures)

pub object-array-array-requires : goal.object-array-array-requires
object-array-array-requires t c = among_there c.args.store.now c.args.variable.0 (values (standing c.args.frame.now c.args.store.now) (exprs_of c.args.subscripts.now)) c.requires

pub object_by_walk-array-array-requires : goal.object_by_walk-array-array-requires
object_by_walk-array-array-requires t c = among_there c.args.store.now c.args.variable.0 (values (standing c.args.frame.now c.args.store.now) (exprs_of c.args.subscripts.now)) c.requires
