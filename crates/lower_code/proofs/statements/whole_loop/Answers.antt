use Rattle.std.proofs.Common.{sym, subst}
use Rattle.std.proofs.lemmas.Result.{IfOk-weaker, IfOk-at_ok}
use Rattle.std.specs.Prelude.{string_bytes, Some}
use Rattle.ktree.specs.View.{cond_of, increment_of, source_of}
use Rattle.lower_code.specs.Meaning.{MeansDeclared, MeansTurns}
use Rattle.lower_code.proofs.Whole.{for_means}
use Rattle.lower_code.proofs.statements.whole_loop.Goals as goal

pub returns : goal.returns
returns c =
    let layout = c.args.layout.now in
    let head = c.args.head.now in
    let p = c.in_ok-turns-2 in
    let start = IfOk-at_ok (MeansDeclared layout head.variable.0 (Some (source_of head.start))) p.ensures.next c.entry.ensures in
    IfOk-weaker c.then.result _ _ (λ r joins x mx.
    for_means layout head.variable.0 (string_bytes head.name) (source_of head.start) (cond_of head.test) (increment_of head.step) x p.start p.turns r start
    (subst (MeansTurns layout (cond_of head.test) x (increment_of head.step)) (sym p.ensures.before) (c.in_ok-turns.ensures x mx)) joins) c.then.ensures
