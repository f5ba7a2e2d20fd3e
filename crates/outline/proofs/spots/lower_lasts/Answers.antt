use Rattle.std.specs.Prelude.{◌+◌, take, filter}
use Rattle.std.proofs.Common.{sym, ap, ◌∙◌, subst}
use Rattle.semantics.specs.Meaning.Agrees.{is_among}
use Rattle.law_commute.specs.Targets.{targets_outside}
use Rattle.ktree.specs.View.{stmt_of}
use Rattle.flow.specs.Parallel.{numbers}
use Rattle.lower.specs.Roles.{StandEach}
use Rattle.outline.proofs.Standing.{stand_next, stand_same}
use Rattle.outline.proofs.spots.lower_lasts.Goals.{then-assigns_outside+in_ok-push, else-assigns_outside}
use Rattle.outline.proofs.spots.lower_lasts.Goals as goal

pub loop-variable-preserved : goal.loop-variable-preserved
loop-variable-preserved c =
    let layout = c.args.target.layout.now in
    let mark = c.args.target.registers in
    let p = is_among (targets_outside (stmt_of c.args.stmt.now)) in
    let xs = c.args.lasts.now in
    let i = c.loop-variable.variable-index in
    elim c.if-assigns_outside.branch [
      | then-assigns_outside+in_ok-push w ↦
          subst (StandEach layout mark (filter p (numbers (take (i + 1) xs)))) (sym (ap (λ v. v.items) w.spots-is ∙ w.in_ok-push.ensures.items))
          (stand_next layout mark p xs i _ c.loop-variable-test.true c.loop-variable.spots.items c.loop-variable.invariant w.spot_of.result (sym c.assigns_outside.ensures ∙ w.if-assigns_outside.true) w.spot_of.ensures)
      | else-assigns_outside w ↦
          subst (StandEach layout mark (filter p (numbers (take (i + 1) xs)))) (sym (ap (λ v. v.items) w.spots-is))
          (stand_same layout mark p xs i _ c.loop-variable-test.true c.loop-variable.spots.items c.loop-variable.invariant (sym c.assigns_outside.ensures ∙ w.if-assigns_outside.false))
    ]
