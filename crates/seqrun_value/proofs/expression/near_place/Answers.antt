use Rattle.std.proofs.Common.{◌+◌, ◌*◌, ◌<◌, length, get_or, Option, Some, None, arith}
use Rattle.std.specs.Option.{IfSome}
use Rattle.seqrun_value.specs.Standing.{standing}
use Rattle.seqrun_value.proofs.ValueLemmas.{one_place_is, second_inside, row_below, two_below, two_place_is}
use Rattle.seqrun_value.proofs.expression.near_place.Goals as goal

if_some_weaker : {T : Type 0} {P Q : T → Type 0} (o : Option T) → ((v : T) → P v → Q v) → IfSome o P → IfSome o Q
if_some_weaker None f h = h
if_some_weaker (Some v) f h = f v h

pub returns-then-subscripts-eq1 : goal.returns-then-subscripts-eq1
returns-then-subscripts-eq1 c =
    if_some_weaker c.near.result
    (λ i v. one_place_is c.args.array.now (standing c.args.frame.now c.args.store.now) c.args.subscripts.now c.requires c.index-subscripts-0.result i c.if-subscripts-eq1.true c.index-subscripts-0.is v)
    c.near.ensures

pub bounds-lengths-1 : goal.bounds-lengths-1
bounds-lengths-1 c =
    rw c.lengths-lengths.ensures
    (second_inside c.args.array.now (standing c.args.frame.now c.args.store.now) c.args.subscripts.now c.requires c.index-subscripts-0-then-subscripts-eq2.result c.index-subscripts-1.result c.in_ok-row.row c.if-subscripts-eq2.true c.index-subscripts-0-then-subscripts-eq2.is c.index-subscripts-1.is c.in_ok-row.ensures)

pub overflow_mul-result : goal.overflow_mul-result
overflow_mul-result c =
    let below : c.in_ok-row.row * get_or c.lengths-lengths.result.now 1 0 < length c.values-cells.result.now = rw (c.lengths-lengths.ensures, c.values-cells.ensures.value) (row_below c.args.array.now (standing c.args.frame.now c.args.store.now) c.args.subscripts.now c.requires c.index-subscripts-0-then-subscripts-eq2.result c.index-subscripts-1.result c.in_ok-row.row c.if-subscripts-eq2.true c.index-subscripts-0-then-subscripts-eq2.is c.index-subscripts-1.is c.in_ok-row.ensures) in
    omega (arith, below, c.values-cells.type_inv.0)

pub overflow_add-result : goal.overflow_add-result
overflow_add-result c =
    let below : c.in_ok-row.row * get_or c.lengths-lengths.result.now 1 0 + c.in_ok-column.column < length c.values-cells.result.now = rw (c.lengths-lengths.ensures, c.values-cells.ensures.value) (two_below c.args.array.now (standing c.args.frame.now c.args.store.now) c.args.subscripts.now c.requires c.index-subscripts-0-then-subscripts-eq2.result c.index-subscripts-1.result c.in_ok-row.row c.if-subscripts-eq2.true c.index-subscripts-0-then-subscripts-eq2.is c.index-subscripts-1.is c.in_ok-row.ensures c.in_ok-column.column c.in_ok-column.ensures) in
    omega (arith, below, c.values-cells.type_inv.0)

pub returns-in_ok-column : goal.returns-in_ok-column
returns-in_ok-column c =
    rw c.lengths-lengths.ensures
    (two_place_is c.args.array.now (standing c.args.frame.now c.args.store.now) c.args.subscripts.now c.requires c.index-subscripts-0-then-subscripts-eq2.result c.index-subscripts-1.result c.in_ok-row.row c.if-subscripts-eq2.true c.index-subscripts-0-then-subscripts-eq2.is c.index-subscripts-1.is c.in_ok-row.ensures c.in_ok-column.column c.in_ok-column.ensures)
