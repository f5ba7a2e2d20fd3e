use Rattle.std.proofs.Common.{◌∙◌, sym, ap}
use Rattle.affine_expr.specs.Shapes.{shape_of}
use Rattle.ktree.proofs.Trees.{object_is}
use Rattle.affine_expr.proofs.shape.+shape_of.Goals as goal

pub returns-in-Object : goal.returns-in-Object
returns-in-Object t c =
    c.variable_shape.ensures
    ∙ sym (ap (shape_of c.args.bounds.now) (object_is c.args.expr.now c.in-Object.variable c.in-Object.subscripts c.in-Object.field-2 c.as_slice.result.now c.in-Object.is c.as_slice.ensures.value))
