use Rattle.std.specs.Prelude.{IfOk}
use Rattle.std.proofs.Common.{sym, subst}
use Rattle.semantics.specs.Tree.{Expr}
use Rattle.ktree.proofs.Trees.{object_is}
use Rattle.nest.specs.Nests.{IsAffine, ExprHas}
use Rattle.nest.specs.Leaves.{ExprMeets}
use Rattle.nest.specs.Judged.{inside_of, out_of, Decides, Tells}
use Rattle.nest.proofs.expressions.+expression.Goals as goal

pub expr-returns-in-Object-clause-affine : goal.expr-returns-in-Object-clause-affine
expr-returns-in-Object-clause-affine t c =
    subst (λ (e : Expr). Decides c.object.result (ExprHas IsAffine c.args.bounds.now e))
    (sym (object_is c.args.expression.now c.in-Object.variable c.in-Object.subscripts c.in-Object.mention _ c.in-Object.is c.as_slice.ensures.value)) c.object.ensures.affine

pub expr-returns-in-Object-clause-leaves : goal.expr-returns-in-Object-clause-leaves
expr-returns-in-Object-clause-leaves t c =
    subst (λ (e : Expr). IfOk c.object.result (Tells (ExprHas (inside_of c.args.variables.now) c.args.bounds.now e) (ExprMeets (out_of c.args.variables.now) c.args.bounds.now e)))
    (sym (object_is c.args.expression.now c.in-Object.variable c.in-Object.subscripts c.in-Object.mention _ c.in-Object.is c.as_slice.ensures.value)) c.object.ensures.leaves
