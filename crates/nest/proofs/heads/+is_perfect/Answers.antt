use Rattle.std.specs.Prelude.{◌-◌}
use Rattle.ktree.specs.View.{stmt_of}
use Rattle.nest.specs.Heads.{head_of}
use Rattle.nest.proofs.PerfectLaw.{pred_is, no_loops, nest_down, nest_up}
use Rattle.nest.proofs.heads.+is_perfect.Goals as goal

pub returns-then-depth-eq0 : goal.returns-then-depth-eq0
returns-then-depth-eq0 t c = (λ e. no_loops (λ loops. Unit {0}) c.args.depth (stmt_of c.args.statement.now) c.if-depth-eq0.true tt, λ h. cc)

pub returns-in-Some : goal.returns-in-Some
returns-in-Some t c =
    let n = c.args.depth in
    let s = stmt_of c.args.statement.now in
    let b = stmt_of c.in-Some.level.body.now in
    let h = head_of c.in-Some.level.head.now in (
      λ e. nest_up (λ loops. Unit {0}) n (n - 1) s b h (pred_is n c.if-depth-eq0.false) c.in-Some.ensures (c.is_perfect.ensures.0 e),
      λ k. c.is_perfect.ensures.1 (nest_down (λ loops. Unit {0}) n (n - 1) s b h (pred_is n c.if-depth-eq0.false) c.in-Some.ensures k),
    )
