use Rattle.std.proofs.Common.{◌∙◌, sym, ap}
use Rattle.nest_loop.specs.Canonical.{is_variable}
use Rattle.ktree.proofs.Trees.{object_is}
use Rattle.nest_loop.proofs.Trees.{plain_variable, subscripted_variable}
use Rattle.nest_loop.proofs.stride.is_variable.Goals as goal

pub returns-in-empty : goal.returns-in-empty
returns-in-empty c =
    let is = object_is c.args.expr.now c.in-Object.other c.in-Object.subscripts c.in-Object.field-2 c.as_slice.result.now c.in-Object.is c.as_slice.ensures.value in
    sym (ap (is_variable c.args.variable.0) is ∙ plain_variable c.args.variable.0 c.in-Object.other.0 c.as_slice.result.now c.in-empty.len_below)

pub returns-in-len1-up : goal.returns-in-len1-up
returns-in-len1-up c =
    let is = object_is c.args.expr.now c.in-Object.other c.in-Object.subscripts c.in-Object.field-2 c.as_slice.result.now c.in-Object.is c.as_slice.ensures.value in
    sym (ap (is_variable c.args.variable.0) is ∙ subscripted_variable c.args.variable.0 c.in-Object.other.0 c.as_slice.result.now c.in-len1-up.len_at_least)
