use Rattle.pairtest_access.proofs.Walks.{enters_first}
use Rattle.pairtest_access.proofs.statements.enter_loop.Goals as goal

pub returns-clause-ok : goal.returns-clause-ok
returns-clause-ok c =
    enters_first c.args.chain.now c.enter.new.self c.args.head.now c.args.loops.now c.in-Some.own.now c.in-Some.inner.now c.in-Some.ensures.cases.0 c.in_ok-enter.ensures.ok c.levels-levels.ensures.sound
