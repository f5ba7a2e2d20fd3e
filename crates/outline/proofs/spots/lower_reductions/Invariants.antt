use Rattle.std.specs.Prelude.{take, filter}
use Rattle.semantics.specs.Meaning.Agrees.{is_among}
use Rattle.law_commute.specs.Targets.{targets_outside}
use Rattle.ktree.specs.View.{stmt_of}
use Rattle.flow_reduction.specs.Reduced.{reduced}
use Rattle.lower.specs.Roles.{AreReduced}
use Rattle.outline.proofs.spots.lower_reductions.Given as goal

-- those so far
abbrev pub invariant-loop-reduction : goal.invariant-loop-reduction
invariant-loop-reduction l =
    AreReduced l.target.layout.now l.target.registers (filter (λ r. is_among (targets_outside (stmt_of l.stmt)) r.0) (reduced (take l.reduction-index l.reductions))) l.lowered.items
