use Rattle.std.specs.Prelude.{◌-◌}
use Rattle.nest.proofs.PerfectLaw.{pred_is}
use Rattle.ktree.specs.View.{stmt_of}
use Rattle.nest.specs.Heads.{head_of}
use Rattle.outline.proofs.Nested.{body_inside}
use Rattle.outline.proofs.handing.+body_of.Goals as goal

pub returns : goal.returns
returns t c =
    let n = c.args.depth in
    let b = stmt_of c.in-Some.level.body.now in
    body_inside n (n - 1) (stmt_of c.args.stmt.now) b (stmt_of c.body_of.result.now) (head_of c.in-Some.level.head.now) (pred_is n c.if-depth-eq0.false) c.in-Some.ensures c.body_of.ensures
