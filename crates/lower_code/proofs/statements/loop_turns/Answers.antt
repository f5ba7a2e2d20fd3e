use Rattle.std.proofs.Common.{sym, subst}
use Rattle.std.proofs.lemmas.Result.{IfOk-weaker, IfOk-at_ok}
use Rattle.semantics.specs.Meaning.Runs.{incremented}
use Rattle.ktree.specs.View.{cond_of, increment_of}
use Rattle.lower_machine.specs.declared.term.Test.{Test}
use Rattle.lower_machine.specs.declared.term.Code.{Code}
use Rattle.lower_code.specs.Meaning.{MeansTest, MeansStmt, DoesAlways}
use Rattle.lower_code.proofs.Whole.{turns_mean}
use Rattle.lower_code.proofs.statements.loop_turns.Goals as goal

pub returns : goal.returns
returns c =
    let layout = c.args.layout.now in
    let head = c.args.head.now in
    let p = c.in_ok-body in
    let q = c.in_ok-turn in
    let tests = subst (λ (x : Test × Code). MeansTest layout (cond_of head.test) x.0) (sym q.ensures.before) (IfOk-at_ok (MeansTest layout (cond_of head.test)) p.ensures.next c.test.ensures) in
    let steps = IfOk-at_ok (DoesAlways layout (λ s. incremented s (increment_of head.step))) q.ensures.next c.increment.ensures in
    IfOk-weaker c.repeat.result _ _ (λ r loops x mx.
    turns_mean layout (cond_of head.test) (increment_of head.step) x q.turn.1 q.step r q.turn.0 tests
    (subst (λ (y : Test × Code). MeansStmt layout x y.1) (sym q.ensures.before) (subst (MeansStmt layout x) (sym p.ensures.before) mx)) steps loops) c.repeat.ensures
