use Rattle.std.proofs.Common.{inr}
use Rattle.ktree.specs.View.{source_of, cond_of, increment_of, stmt_of}
use Rattle.affine.specs.declared.interval.Interval.{Interval}
use Rattle.nest_loop.specs.declared.head.Canonical.{Canonical}
use Rattle.nest_loop.proofs.Laws.{canonical_well, no_loop_wraps}
use Rattle.nest_loop.proofs.entered.numbers_of.Goals as goal

pub returns-then-branch-clause-fault : goal.returns-then-branch-clause-fault
returns-then-branch-clause-fault c =
    let head = c.args.head.now in
    inr (λ (l : Canonical) (i : Interval).
    no_loop_wraps c.args.bounds.now head.variable.0 (source_of head.start) (cond_of head.test) (increment_of head.step) (stmt_of c.args.body.now) c.args.form.now l i
    c.requires (c.in_ok-wraps.ensures.wraps c.if-branch.true))

pub side-requires-clause-well : goal.side-requires-clause-well
side-requires-clause-well c =
    let head = c.args.head.now in
    canonical_well c.args.bounds.now head.variable.0 (source_of head.start) (cond_of head.test) (increment_of head.step) c.args.form.now c.requires

pub wraps-requires : goal.wraps-requires
wraps-requires c =
    let head = c.args.head.now in
    canonical_well c.args.bounds.now head.variable.0 (source_of head.start) (cond_of head.test) (increment_of head.step) c.args.form.now c.requires
