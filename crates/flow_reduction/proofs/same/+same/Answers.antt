use Rattle.std.specs.Prelude.{◌≡◌, ◌==◌, ◌&&◌}
use Rattle.std.proofs.Common.{rules, sym, ap, ◌∙◌}
use Rattle.law_roles.specs.Updates.{same_expr, same_exprs}
use Rattle.ktree.specs.View.{expr_of, exprs_of}
use Rattle.ktree.proofs.Trees.{object_is}
use Rattle.semantics.specs.Tree.{Object}
use Rattle.flow_reduction.proofs.SameLemmas.{none_left}
use Rattle.flow_reduction.proofs.same.+same.Goals as goal

pub is_object-returns-then-eq : goal.is_object-returns-then-eq
is_object-returns-then-eq t c =
    let right = Object c.args.variable.0 (exprs_of c.args.subscripts.now) in
    let parts : c.same_subscripts.result ≡ ((c.in-Object.other.0 == c.args.variable.0) && same_exprs (exprs_of c.deref.result.now) (exprs_of c.args.subscripts.now)) = search rules in
    parts ∙ sym (ap (λ e. same_expr e right) (object_is c.args.left.now c.in-Object.other c.in-Object.others c.in-Object.field-2 c.deref.result.now c.in-Object.is c.deref.ensures.value))

pub same_expression-returns-in-Object : goal.same_expression-returns-in-Object
same_expression-returns-in-Object t c =
    c.is_object.ensures
    ∙ sym (ap (same_expr (expr_of c.args.left.now)) (object_is c.args.right.now c.in-Object.variable c.in-Object.subscripts c.in-Object.field-2 c.deref-in-Object.result.now c.in-Object.is c.deref-in-Object.ensures.value))

pub same_subscripts-returns : goal.same_subscripts-returns
same_subscripts-returns t c =
    c.is_empty.ensures
    ∙ none_left c.args.left.now c.loop-subscript.others.now c.loop-subscript.subscript-index c.loop-subscript-test.false
    ∙ c.loop-subscript.invariant
