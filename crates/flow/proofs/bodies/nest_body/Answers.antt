use Rattle.ktree.specs.View.{stmt_of}
use Rattle.nest.specs.Heads.{head_of}
use Rattle.flow.proofs.PrivateLemmas.{nest_more, nest_ends}
use Rattle.flow.proofs.bodies.nest_body.Goals as goal

pub returns-in_default : goal.returns-in_default
returns-in_default c = nest_ends c.args.depth c.loop.counter (stmt_of c.args.statement.now) (stmt_of c.loop.body.now) c.loop-test.true c.loop.invariant c.in_default.ensures

pub loop-preserved : goal.loop-preserved
loop-preserved c = nest_more c.args.depth c.loop.counter (stmt_of c.args.statement.now) (stmt_of c.loop.body.now) c.loop-test.true c.loop.invariant (head_of c.in-Some.level.head.now) (stmt_of c.in-Some.level.body.now) c.in-Some.ensures
