use Rattle.std.proofs.Common.{subst}
use Rattle.std.proofs.lemmas.Result.{IfOk-weaker}
use Rattle.semantics.specs.Tree
use Rattle.semantics.specs.Meaning.Value.{value, values, both_then, operate}
use Rattle.semantics.specs.Meaning.Runs.{assigned}
use Rattle.ktree.specs.View.{exprs_of, expr_of, binary_of}
use Rattle.lower_code.specs.Meaning.{Does}
use Rattle.lower_code.proofs.statements.compound_assignment.Goals as goal

pub returns : goal.returns
returns c =
    let x = c.args.target.now.variable.0 in
    let op = binary_of c.args.op in
    let e = expr_of c.args.expr.now in
    IfOk-weaker c.update.result _ _ (λ r does mark all.
    subst (λ es. Does c.args.layout.now mark (λ s. assigned s x (values s (exprs_of es)) (both_then (operate op) (value s (Tree.Object x (exprs_of es))) (value s e))) r) c.deref.ensures.value
    (does mark (λ s. value s e) c.in_ok-term.ensures)) c.update.ensures
