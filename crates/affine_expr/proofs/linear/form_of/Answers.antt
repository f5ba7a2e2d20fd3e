use Rattle.std.proofs.Common.{◌≡◌, None, inr, rules}
use Rattle.ktree.specs.View.{expr_of}
use Rattle.affine_expr.specs.Shapes.{shape_of}
use Rattle.affine_expr.proofs.Shaping.{shapeless}
use Rattle.affine_expr.proofs.linear.form_of.Goals as goal

pub returns-in_default-clause-err : goal.returns-in_default-clause-err
returns-in_default-clause-err c =
    let none : shape_of c.args.bounds.now (expr_of c.args.expr.now) ≡ None = search rules in
    inr (shapeless c.args.bounds.now (expr_of c.args.expr.now) none)
