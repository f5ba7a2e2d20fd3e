use Rattle.std.proofs.Common.{sym, subst}
use Rattle.std.proofs.lemmas.Result.{IfOk-weaker}
use Rattle.semantics.specs.Meaning.Value.{source_value}
use Rattle.ktree.specs.View.{cond_of, source_of}
use Rattle.lower_code.specs.Meaning.{Gives}
use Rattle.lower_code.proofs.Values.{truth_gives}
use Rattle.lower_code.proofs.expression.source_value.Goals as goal

pub returns-in-Number : goal.returns-in-Number
returns-in-Number c = IfOk-weaker c.value.result _ _ (λ r is. subst (λ e. Gives c.args.layout.now (λ s. source_value s (source_of e)) r) (sym c.in-Number.is) is) c.value.ensures

pub returns-in_ok-c-in-Truth : goal.returns-in_ok-c-in-Truth
returns-in_ok-c-in-Truth c =
    let layout = c.args.layout.now in
    IfOk-weaker c.conditional.result _ _ (λ r is. subst (λ e. Gives layout (λ s. source_value s (source_of e)) r) (sym c.in-Truth.is) (truth_gives layout (cond_of c.in-Truth.c) c.in_ok-c-in-Truth.c c.number.result c.number-in-Truth.result r c.in_ok-c-in-Truth.ensures c.number.ensures c.number-in-Truth.ensures is)) c.conditional.ensures
