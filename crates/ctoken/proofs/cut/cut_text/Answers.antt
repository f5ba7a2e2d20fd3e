use Rattle.std.proofs.Common.{subst, arith}
use Rattle.ctoken.proofs.CutSteps.{Reached, gap_step, turn_step, token_step, fault_step, reached_end, reached_inside, reached_lie}
use Rattle.ctoken.proofs.cut.cut_text.Goals as goal
use Rattle.ctoken.proofs.cut.cut_text.Goals.{then-fresh, else-fresh}

pub overflow_add-position : goal.overflow_add-position
overflow_add-position c =
    let step = gap_step c.in-Ok-Gap.length c.loop-position.invariant c.in-Ok-Gap.field-0-is c.in-Ok-Gap.ensures in
    omega (arith, step.1)

pub loop-position-smaller-in-Ok-Gap : goal.loop-position-smaller-in-Ok-Gap
loop-position-smaller-in-Ok-Gap c =
    let step = gap_step c.in-Ok-Gap.length c.loop-position.invariant c.in-Ok-Gap.field-0-is c.in-Ok-Gap.ensures in
    omega (arith, step.0, step.1)

pub loop-position-preserved-in-Ok-Gap : goal.loop-position-preserved-in-Ok-Gap
loop-position-preserved-in-Ok-Gap c =
    (gap_step c.in-Ok-Gap.length c.loop-position.invariant c.in-Ok-Gap.field-0-is c.in-Ok-Gap.ensures).2

pub loop-position-preserved-in-Ok-LineEnd : goal.loop-position-preserved-in-Ok-LineEnd
loop-position-preserved-in-Ok-LineEnd c = turn_step c.loop-position.invariant c.in-Ok-LineEnd.field-0-is c.in-Ok-LineEnd.ensures

pub overflow_add-start : goal.overflow_add-start
overflow_add-start c =
    let step = token_step c.in-Ok-Token.kind c.in-Ok-Token.blanks c.in-Ok-Token.length c.loop-position.invariant c.in-Ok-Token.field-0-is c.in-Ok-Token.ensures in
    omega (arith, step.1)

pub overflow_add-start-in-Ok-Token : goal.overflow_add-start-in-Ok-Token
overflow_add-start-in-Ok-Token c =
    let step = token_step c.in-Ok-Token.kind c.in-Ok-Token.blanks c.in-Ok-Token.length c.loop-position.invariant c.in-Ok-Token.field-0-is c.in-Ok-Token.ensures in
    omega (arith, step.0, step.1)

pub overflow_add-position-in-Ok-Token : goal.overflow_add-position-in-Ok-Token
overflow_add-position-in-Ok-Token c =
    let step = token_step c.in-Ok-Token.kind c.in-Ok-Token.blanks c.in-Ok-Token.length c.loop-position.invariant c.in-Ok-Token.field-0-is c.in-Ok-Token.ensures in
    omega (arith, step.1)

pub loop-position-smaller : goal.loop-position-smaller
loop-position-smaller c =
    let step = token_step c.in-Ok-Token.kind c.in-Ok-Token.blanks c.in-Ok-Token.length c.loop-position.invariant c.in-Ok-Token.field-0-is c.in-Ok-Token.ensures in
    omega (arith, step.0, step.1)

pub loop-position-preserved : goal.loop-position-preserved
loop-position-preserved c =
    let step = token_step c.in-Ok-Token.kind c.in-Ok-Token.blanks c.in-Ok-Token.length c.loop-position.invariant c.in-Ok-Token.field-0-is c.in-Ok-Token.ensures in
    rw c.in_ok-push-in-Ok-Token.ensures.items (step.2 c.place-place.result c.place-place.ensures)

pub overflow_add-result : goal.overflow_add-result
overflow_add-result c =
    let step = fault_step c.in-Err.at c.loop-position.invariant c.loop-position-test.true c.in-Err.ensures in
    omega (arith, step.0)

pub returns-in-Err-clause-lie : goal.returns-in-Err-clause-lie
returns-in-Err-clause-lie c = reached_lie c.loop-position.invariant

pub returns-clause-lie : goal.returns-clause-lie
returns-clause-lie c = reached_lie c.loop-position.invariant

pub returns-in-Err-clause-cut : goal.returns-in-Err-clause-cut
returns-in-Err-clause-cut c = (fault_step c.in-Err.at c.loop-position.invariant c.loop-position-test.true c.in-Err.ensures).1

pub returns-clause-cut : goal.returns-clause-cut
returns-clause-cut c =
    elim c.if-fresh.branch [
      | then-fresh w ↦ rw w.fault-is (reached_end (subst (Reached c.args.text.now c.loop-position.tokens.items c.loop-position.position c.loop-position.line c.loop-position.line_start) w.if-fresh.true c.loop-position.invariant) c.loop-position-test.false)
      | else-fresh w ↦ rw w.fault-is (reached_inside (subst (Reached c.args.text.now c.loop-position.tokens.items c.loop-position.position c.loop-position.line c.loop-position.line_start) w.if-fresh.false c.loop-position.invariant) c.loop-position-test.false)
    ]
