use Rattle.std.proofs.Common.{◌≡◌, None, subst, inl, inr, ⊎_elim}
use Rattle.std.proofs.lemmas.Result.{err_from_is_err_and}
use Rattle.ktree.specs.View.{expr_of}
use Rattle.ktree.specs.declared.expression.Expr.{Expr}
use Rattle.affine_expr.specs.declared.faults.Fault.TheVariants.{OutOfMemory}
use Rattle.affine_expr.specs.Forms.{form_of}
use Rattle.affine_expr.proofs.Shaping.{one_missing}
use Rattle.affine_expr.proofs.subscripts.are_affine.Goals as goal

pub returns-in_err-_form-clause-err : goal.returns-in_err-_form-clause-err
returns-in_err-_form-clause-err c =
    let p = err_from_is_err_and c.from_residual.result c.from_residual.ensures.1 in
    let fault = c.in_err-_form.field-0.0 in
    let box = c.args.bounds.now in
    let d = c.index-subscripts-i.result in
    rw (p.1, p.2)
    (⊎_elim (λ (m : fault ≡ OutOfMemory). inl m)
    (λ (none : form_of box (expr_of d) ≡ None).
    inr (one_missing box c.args.subscripts.now c.loop-i.i d c.loop-i-test.true (subst (λ (e : Expr). form_of box (expr_of e) ≡ None) c.index-subscripts-i.is none)))
    c.in_err-_form.ensures.err)
