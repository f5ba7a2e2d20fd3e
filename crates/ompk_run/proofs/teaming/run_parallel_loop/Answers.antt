-- In place, or in its way over what was left alone.
use Rattle.std.proofs.Common.{ℕ, List, OnOk, subst}
use Rattle.semantics.specs.Loops.Nest.{Loop}
use Rattle.flow.specs.Roles.{LineData}
use Rattle.outline.specs.Fit.{Fits}
use Rattle.outline.specs.View.{performed}
use Rattle.outline.specs.declared.shape.Outline.TheVariants.{Team}
use Rattle.lower_code.specs.declared.laid.Laid.{Laid}
use Rattle.lower_run.specs.Walk.{Walks, Begins, stage}
use Rattle.ompk_run.proofs.teaming.run_parallel_loop.Goals as goal

pub returns-then-branch-clause-ran : goal.returns-then-branch-clause-ran
returns-then-branch-clause-ran g c layout mark R serial fits =
    c.in_ok-is_run_in_place.ensures.ran c.if-branch.true layout mark R serial (g.S.Sink.told c.args.sink.now) fits

pub returns-clause-ran : goal.returns-clause-ran
returns-clause-ran g c =
    let l = c.args.construct.now in
    let text = g.S.Sink.told c.args.sink.now in
    let new = c.run_by_way.new in
    let left = c.in_ok-is_run_in_place.ensures.left c.if-branch.false in
    subst (λ ks. OnOk c.run_by_way.result ((layout : List Laid) (mark : ℕ) (R : LineData) (serial : List Loop) → Fits layout mark R serial (Team l) → Walks layout mark (performed R serial (Team l)) (stage c.args.registers.now.items ks text) (stage new.registers.items new.store (g.S.Sink.told new.sink)))) left.1
    (subst (λ rs. OnOk c.run_by_way.result ((layout : List Laid) (mark : ℕ) (R : LineData) (serial : List Loop) → Fits layout mark R serial (Team l) → Walks layout mark (performed R serial (Team l)) (stage rs c.is_run_in_place.new.store text) (stage new.registers.items new.store (g.S.Sink.told new.sink)))) left.0
    c.run_by_way.ensures.ran)

pub returns-clause-beginning : goal.returns-clause-beginning
returns-clause-beginning g c =
    let l = c.args.construct.now in
    let text = g.S.Sink.told c.args.sink.now in
    let text' = g.S.Sink.told c.run_by_way.new.sink in
    let left = c.in_ok-is_run_in_place.ensures.left c.if-branch.false in
    subst (λ ks. (layout : List Laid) (mark : ℕ) (R : LineData) (serial : List Loop) → Fits layout mark R serial (Team l) → Begins layout mark (performed R serial (Team l)) (stage c.args.registers.now.items ks text) text') left.1
    (subst (λ rs. (layout : List Laid) (mark : ℕ) (R : LineData) (serial : List Loop) → Fits layout mark R serial (Team l) → Begins layout mark (performed R serial (Team l)) (stage rs c.is_run_in_place.new.store text) text') left.0
    c.run_by_way.ensures.beginning)
