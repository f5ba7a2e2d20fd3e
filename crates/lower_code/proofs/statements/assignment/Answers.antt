use Rattle.std.proofs.Common.{subst}
use Rattle.std.proofs.lemmas.Result.{IfOk-weaker}
use Rattle.semantics.specs.Meaning.Value.{source_value, values}
use Rattle.semantics.specs.Meaning.Runs.{assigned}
use Rattle.ktree.specs.View.{exprs_of, source_of}
use Rattle.lower_code.specs.Meaning.{Does}
use Rattle.lower_code.proofs.statements.assignment.Goals as goal

pub returns : goal.returns
returns c =
    IfOk-weaker c.assign.result _ _ (λ r does mark all.
    subst (λ es. Does c.args.layout.now mark (λ s. assigned s c.args.target.now.variable.0 (values s (exprs_of es)) (source_value s (source_of c.args.source.now))) r) c.deref.ensures.value
    (does mark (λ s. source_value s (source_of c.args.source.now)) c.in_ok-term.ensures)) c.assign.ensures
