use Rattle.ktree.specs.View.{stmt_of}
use Rattle.outline.proofs.Right.{loop_right}
use Rattle.outline.proofs.making.go_into.Goals as goal

pub returns-clause-right : goal.returns-clause-right
returns-clause-right c = λ layout mark loops.
    loop_right layout mark loops c.args.bounds.now c.enter.new.bounds c.args.head.now (stmt_of c.args.body.now) c.in_ok-enter.field-0 c.in_ok-enter.ensures.ok c.in_ok-enter.ensures.inside
