use Rattle.std.specs.Prelude.{◌≡◌, ◌≢◌, ◌<◌, length, vec_len}
use Rattle.std.proofs.Common.{refl, sym, ap, ◌∙◌, arith}
use Rattle.std.proofs.lemmas.Bool.{eqb-true, eqb-false}
use Rattle.ktree.proofs.Trees.{object_is}
use Rattle.flow_reduction.specs.Updates.{scalar_of}
use Rattle.flow_reduction.proofs.UpdateLemmas.{scalar_is, element_is}
use Rattle.flow_reduction.proofs.updates.scalar.Goals as goal

pub returns-then-is_empty : goal.returns-then-is_empty
returns-then-is_empty c =
    let subscripts = c.in-Object.subscripts in
    let none : vec_len subscripts ≡ 0 = eqb-true (vec_len subscripts) 0 (sym c.is_empty.ensures ∙ c.if-is_empty.true) in
    let empty : length subscripts.items ≡ 0 = omega arith in
    scalar_is c.in-Object.variable.0 subscripts.items empty
    ∙ sym (ap scalar_of (object_is c.args.expression.now c.in-Object.variable subscripts c.in-Object.field-2 subscripts.items c.in-Object.is refl))

pub returns-else-is_empty : goal.returns-else-is_empty
returns-else-is_empty c =
    let subscripts = c.in-Object.subscripts in
    let some : vec_len subscripts ≢ 0 = eqb-false (vec_len subscripts) 0 (sym c.is_empty.ensures ∙ c.if-is_empty.false) in
    let above : 0 < length subscripts.items = omega arith in
    element_is c.in-Object.variable.0 subscripts.items above
    ∙ sym (ap scalar_of (object_is c.args.expression.now c.in-Object.variable subscripts c.in-Object.field-2 subscripts.items c.in-Object.is refl))
