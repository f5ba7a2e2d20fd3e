use Rattle.std.proofs.Common.{sym, ap, subst, ◌∙◌}
use Rattle.std.proofs.lemmas.Result.{IfOk-weaker, IfOk-at_ok}
use Rattle.semantics.specs.Meaning.Runs.{greatest_trip_count}
use Rattle.lower_machine.specs.Machine.{after, spins, truth}
use Rattle.lower_unroll.specs.Turns.{DoesAs}
use Rattle.lower_unroll.proofs.Parts.{then_written, turns_written}
use Rattle.lower_unroll.proofs.unrolling.+unroll.Goals as goal

pub returns-in_ok-a-in-Then : goal.returns-in_ok-a-in-Then
returns-in_ok-a-in-Then t c =
    let n = c.args.count in
    let a = c.in-Then.a.value in
    let b = c.in-Then.b.value in
    let p = c.in_ok-b-in-Then in
    let q = c.in_ok-a-in-Then in
    let one : DoesAs n (after a) q.a =
    subst (DoesAs n (after a)) (sym q.ensures.before)
    (subst (λ k. DoesAs n (after k) p.a) c.into_inner.ensures (IfOk-at_ok (DoesAs n (after c.into_inner.result)) p.ensures.next c.unroll.ensures)) in
    let other : DoesAs n (after b) q.b =
    subst (λ k. DoesAs n (after k) q.b) (c.into_inner-in-Then.ensures ∙ ap (λ k. k.value) p.ensures.before)
    (IfOk-at_ok (DoesAs n (after c.into_inner-in-Then.result)) q.ensures.next c.unroll-in-Then.ensures) in
    IfOk-weaker c.sequence.result _ _ (λ k is. subst (λ x. DoesAs n (after x) k) (sym c.in-Then.is) (then_written n a b q.a q.b k one other is)) c.sequence.ensures

pub returns-in_ok-rest-in-Loop : goal.returns-in_ok-rest-in-Loop
returns-in_ok-rest-in-Loop t c =
    let n = c.args.count in
    let test = c.in-Loop.test in
    let body = c.in-Loop.body.value in
    let step = c.in-Loop.step.value in
    let p = c.in_ok-rest-in-Loop in
    let one : DoesAs n (after body) p.body =
    subst (λ k. DoesAs n (after k) p.body) c.into_inner-in-Loop.ensures
    (IfOk-at_ok (DoesAs n (after c.into_inner-in-Loop.result)) p.ensures.next c.unroll-in-Loop.ensures) in
    let same = c.into_inner-in-Loop-2.ensures ∙ ap (λ k. k.1.value) p.ensures.before in
    IfOk-weaker c.repeat.result _ _ (λ k is. subst (λ x. DoesAs n (after x) k) (sym c.in-Loop.is)
    (λ r wide.
    is r
    ∙ ap (λ x. spins greatest_trip_count (truth x.0) (λ j. after c.into_inner-in-Loop-2.result (after p.body j)) r) p.ensures.before
    ∙ ap (λ x. spins greatest_trip_count (truth test) (λ j. after x (after p.body j)) r) same
    ∙ turns_written n body p.body step one greatest_trip_count (truth test) r wide)) c.repeat.ensures
