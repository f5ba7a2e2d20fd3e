use Rattle.std.specs.Prelude.{◌+◌, take, filter}
use Rattle.std.proofs.Common.{sym, ap, ◌∙◌, subst}
use Rattle.semantics.specs.Meaning.Agrees.{is_among}
use Rattle.semantics.specs.Tree.{Variable}
use Rattle.semantics.specs.Loops.Operator.{ReduceOp}
use Rattle.law_commute.specs.Targets.{targets_outside}
use Rattle.ktree.specs.View.{stmt_of}
use Rattle.flow_reduction.specs.Reduced.{reduced}
use Rattle.lower.specs.Roles.{AreReduced}
use Rattle.outline.proofs.Standing.{reduced_next, reduced_same}
use Rattle.outline.proofs.spots.lower_reductions.Goals.{then-assigns_outside+in_ok-push, else-assigns_outside}
use Rattle.outline.proofs.spots.lower_reductions.Goals as goal

pub loop-reduction-preserved : goal.loop-reduction-preserved
loop-reduction-preserved c =
    let layout = c.args.target.layout.now in
    let mark = c.args.target.registers in
    let p = λ (r : Variable × ReduceOp). is_among (targets_outside (stmt_of c.args.stmt.now)) r.0 in
    let rs = c.args.reductions.now in
    let i = c.loop-reduction.reduction-index in
    elim c.if-assigns_outside.branch [
      | then-assigns_outside+in_ok-push w ↦
          subst (AreReduced layout mark (filter p (reduced (take (i + 1) rs)))) (sym (ap (λ v. v.items) w.lowered-is ∙ w.in_ok-push.ensures.items))
          (reduced_next layout mark p rs i _ c.loop-reduction-test.true c.loop-reduction.lowered.items c.loop-reduction.invariant w.spot_of-spot.result (sym c.assigns_outside.ensures ∙ w.if-assigns_outside.true) w.spot_of-spot.ensures)
      | else-assigns_outside w ↦
          subst (AreReduced layout mark (filter p (reduced (take (i + 1) rs)))) (sym (ap (λ v. v.items) w.lowered-is))
          (reduced_same layout mark p rs i _ c.loop-reduction-test.true c.loop-reduction.lowered.items c.loop-reduction.invariant (sym c.assigns_outside.ensures ∙ w.if-assigns_outside.false))
    ]
