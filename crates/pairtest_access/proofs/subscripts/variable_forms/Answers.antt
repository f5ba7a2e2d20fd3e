use Rattle.std.specs.Prelude.{◌≡◌, ◌⊎◌, List, Some, None}
use Rattle.std.proofs.Common.{rules, subst}
use Rattle.std.proofs.lemmas.Result.{err_from_is_err_and}
use Rattle.ktree.specs.View.{expr_of}
use Rattle.affine.specs.declared.interval.Side.{Side}
use Rattle.affine_expr.specs.declared.faults.Fault.TheVariants.{OutOfMemory}
use Rattle.affine_expr.specs.Forms.{form_of}
use Rattle.pairtest_access.proofs.Lists.{next_each, each_refused, no_form}
use Rattle.pairtest_access.proofs.subscripts.variable_forms.Goals as goal

pub loop-i-preserved : goal.loop-i-preserved
loop-i-preserved c =
    next_each (λ e f. form_of c.args.chain.now.box e ≡ Some f) c.args.expressions.now c.loop-i.i c.index-expressions-i.result c.loop-i.found.items c.push.new.self.items c.in_ok-form_of.field-0 c.loop-i-test.true
    c.index-expressions-i.is c.loop-i.invariant (search rules) (search rules)

pub returns-in_err-form_of-clause-err : goal.returns-in_err-form_of-clause-err
returns-in_err-form_of-clause-err c =
    let p = err_from_is_err_and c.from_residual.result c.from_residual.ensures.1 in
    let e = c.index-expressions-i.result in
    let fault = c.in_err-form_of.field-0.0 in
    rw (p.1, p.2)
    (each_refused (λ d f. form_of c.args.chain.now.box d ≡ Some f) c.args.expressions.now c.loop-i.i e fault c.loop-i-test.true c.index-expressions-i.is
    (no_form c.args.chain.now.box (expr_of e) fault
    (subst (λ (box : List Side). (fault ≡ OutOfMemory) ⊎ (form_of box (expr_of e) ≡ None)) c.bounds.ensures c.in_err-form_of.ensures.err)))
