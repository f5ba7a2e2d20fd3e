use Rattle.std.proofs.Common.{sym, subst, Some, ◌∙◌}
use Rattle.std.proofs.lemmas.Result.{IfOk-weaker}
use Rattle.semantics.specs.Meaning.Value.{value, source_value}
use Rattle.semantics.specs.Meaning.Runs.{incremented}
use Rattle.ktree.specs.View.{expr_of, source_of, increment_of}
use Rattle.lower_code.specs.Meaning.{DoesAlways}
use Rattle.lower_code.proofs.Spots.{same_some}
use Rattle.lower_code.proofs.statements.increment.Goals as goal

pub returns-in-Up : goal.returns-in-Up
returns-in-Up c =
    let layout = c.args.layout.now in
    IfOk-weaker c.update.result _ _ (λ r is. subst (λ e. DoesAlways layout (λ s. incremented s (increment_of e)) r) (sym c.in-Up.is) (λ mark. is mark (λ s. Some 1) (λ mark s m v stands e. c.number.ensures m ∙ same_some e))) c.update.ensures

pub returns-in-Down : goal.returns-in-Down
returns-in-Down c =
    let layout = c.args.layout.now in
    IfOk-weaker c.update-in-Down.result _ _ (λ r is. subst (λ e. DoesAlways layout (λ s. incremented s (increment_of e)) r) (sym c.in-Down.is) (λ mark. is mark (λ s. Some 1) (λ mark s m v stands e. c.number-in-Down.ensures m ∙ same_some e))) c.update-in-Down.ensures

pub returns-in_ok-term-in-Set : goal.returns-in_ok-term-in-Set
returns-in_ok-term-in-Set c =
    let layout = c.args.layout.now in
    IfOk-weaker c.assign.result _ _ (λ r is. subst (λ e. DoesAlways layout (λ s. incremented s (increment_of e)) r) (sym c.in-Set.is) (λ mark. is mark (λ s. source_value s (source_of c.in-Set.source)) c.in_ok-term-in-Set.ensures)) c.assign.ensures

pub returns-in_ok-term-in-Change : goal.returns-in_ok-term-in-Change
returns-in_ok-term-in-Change c =
    let layout = c.args.layout.now in
    IfOk-weaker c.update-in-Change.result _ _ (λ r is. subst (λ e. DoesAlways layout (λ s. incremented s (increment_of e)) r) (sym c.in-Change.is) (λ mark. is mark (λ s. value s (expr_of c.in-Change.expr)) c.in_ok-term-in-Change.ensures)) c.update-in-Change.ensures
