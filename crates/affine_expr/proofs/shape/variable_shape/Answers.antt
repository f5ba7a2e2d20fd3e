use Rattle.std.proofs.Common.{◌∙◌, sym}
use Rattle.affine_expr.proofs.Shaping.{shape_there, shape_missing, shape_subscripted}
use Rattle.affine_expr.proofs.shape.variable_shape.Goals as goal

pub returns-then-has : goal.returns-then-has
returns-then-has c = sym (shape_there c.args.bounds.now c.args.variable.0 c.args.subscripts.now c.in-empty.len_below (sym c.has.ensures ∙ c.if-has.true))

pub returns-else-has : goal.returns-else-has
returns-else-has c = sym (shape_missing c.args.bounds.now c.args.variable.0 c.args.subscripts.now c.in-empty.len_below (sym c.has.ensures ∙ c.if-has.false))

pub returns-in-len1-up : goal.returns-in-len1-up
returns-in-len1-up c = sym (shape_subscripted c.args.bounds.now c.args.variable.0 c.args.subscripts.now c.in-len1-up.len_at_least)
