use Rattle.std.specs.Prelude.{slice_index}
use Rattle.std.proofs.Common.{◌≡◌, ◌<◌, true, length, sym, ap, subst, ◌∙◌}
use Rattle.std.proofs.lemmas.Bool.{and_parts}
use Rattle.std.proofs.lemmas.Result.{IfOk-weaker, IfOk-at_ok}
use Rattle.lower_machine.specs.declared.term.Code.{Code, Set}
use Rattle.lower_machine.specs.declared.term.Test.{Test}
use Rattle.lower_machine.specs.Machine.{Machine, after, truth}
use Rattle.lower_unroll.specs.Turns.{knowing, sets_others, with_register}
use Rattle.lower_unroll.proofs.Copies.{IsCopy, nothing_copied, set_copied, then_copied, branch_copied, copied_at}
use Rattle.lower_unroll.proofs.copying.+copy_code.Goals as goal

pub returns-in_ok-term-in-Set : goal.returns-in_ok-term-in-Set
returns-in_ok-term-in-Set t c =
    let x = c.args.known.register.at in
    let v = c.args.known.value in
    subst (λ k. IsCopy x v k (Set c.in-Set.register c.in_ok-term-in-Set.term)) (sym c.in-Set.is)
    (set_copied x v c.in-Set.register c.in-Set.term c.in_ok-term-in-Set.term (subst (λ k. sets_others x k ≡ true) c.in-Set.is c.requires) c.in_ok-term-in-Set.ensures)

pub returns-in_ok-a-in-Then-2 : goal.returns-in_ok-a-in-Then-2
returns-in_ok-a-in-Then-2 t c =
    let x = c.args.known.register.at in
    let v = c.args.known.value in
    let p = c.in_ok-a-in-Then-2 in
    let both = and_parts (sets_others x c.in-Then.a.value) (sets_others x c.in-Then.b.value) (subst (λ k. sets_others x k ≡ true) c.in-Then.is c.requires) in
    let one : IsCopy x v c.in-Then.a.value p.a = copied_at x v c.deref.ensures p.ensures.before c.in_ok-a-in-Then.ensures in
    let other : IsCopy x v c.in-Then.b.value p.b =
    subst (λ k. IsCopy x v k p.b) c.deref-in-Then.ensures (IfOk-at_ok (IsCopy x v c.deref-in-Then.result.now) p.ensures.next c.copy_code-in-Then.ensures) in
    IfOk-weaker c.then.result _ _ (λ b is r lt.
    is r ∙ then_copied x v c.in-Then.a.value p.a c.in-Then.b.value p.b both.0 one other r lt
    ∙ ap (λ k. with_register x (slice_index r.machine.registers x) (after k (with_register x v r))) (sym c.in-Then.is)) c.then.ensures

pub returns-in_ok-front-in-If : goal.returns-in_ok-front-in-If
returns-in_ok-front-in-If t c =
    let x = c.args.known.register.at in
    let v = c.args.known.value in
    let p = c.in_ok-c-in-If-2 in
    let q = c.in_ok-front-in-If in
    let same : (m : Machine) → x < length m.registers → truth q.front.0 m ≡ truth c.in-If.c (knowing x v m) =
    subst (λ (f : Test × Code). (m : Machine) → x < length m.registers → truth f.0 m ≡ truth c.in-If.c (knowing x v m)) (sym q.ensures.before)
    (subst (λ k. (m : Machine) → x < length m.registers → truth k m ≡ truth c.in-If.c (knowing x v m)) (sym p.ensures.before) c.in_ok-c-in-If.ensures) in
    let one : IsCopy x v c.in-If.a.value q.front.1 =
    subst (λ (f : Test × Code). IsCopy x v c.in-If.a.value f.1) (sym q.ensures.before)
    (subst (λ k. IsCopy x v k p.a) c.deref-in-If.ensures (IfOk-at_ok (IsCopy x v c.deref-in-If.result.now) p.ensures.next c.copy_code-in-If.ensures)) in
    let other : IsCopy x v c.in-If.b.value q.b =
    subst (λ k. IsCopy x v k q.b) c.deref-in-If-2.ensures (IfOk-at_ok (IsCopy x v c.deref-in-If-2.result.now) q.ensures.next c.copy_code-in-If-2.ensures) in
    IfOk-weaker c.branch-alloc.result _ _ (λ b is r lt.
    is r ∙ branch_copied x v c.in-If.c q.front.0 c.in-If.a.value q.front.1 c.in-If.b.value q.b same one other r lt
    ∙ ap (λ k. with_register x (slice_index r.machine.registers x) (after k (with_register x v r))) (sym c.in-If.is)) c.branch-alloc.ensures

pub returns-in-Nothing : goal.returns-in-Nothing
returns-in-Nothing t c =
    let x = c.args.known.register.at in
    let v = c.args.known.value in
    λ r lt. nothing_copied x v r lt ∙ ap (λ k. with_register x (slice_index r.machine.registers x) (after k (with_register x v r))) (sym c.in-Nothing.is)
