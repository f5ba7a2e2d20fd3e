use Rattle.std.proofs.Common.{rules}
use Rattle.std.proofs.lemmas.Result.{err_from_is_err_and}
use Rattle.pairtest_access.specs.Found.{IsSubscript}
use Rattle.pairtest_access.proofs.Lists.{next_each, all_fail}
use Rattle.pairtest_access.proofs.subscripts.subscripts.Goals as goal

pub loop-i-preserved : goal.loop-i-preserved
loop-i-preserved c =
    next_each (IsSubscript c.args.chain.now) c.args.expressions.now c.loop-i.i c.index-expressions-i.result c.loop-i.found.items c.push.new.self.items c.in_ok-subscript.field-0 c.loop-i-test.true
    c.index-expressions-i.is c.loop-i.invariant (search rules) c.in_ok-subscript.ensures.ok

pub returns-in_err-subscript-clause-err : goal.returns-in_err-subscript-clause-err
returns-in_err-subscript-clause-err c =
    let p = err_from_is_err_and c.from_residual.result c.from_residual.ensures.1 in
    rw (p.1, p.2)
    (all_fail c.args.chain.now c.args.expressions.now c.loop-i.i c.index-expressions-i.result c.in_err-subscript.field-0.0 c.loop-i-test.true c.index-expressions-i.is
    c.in_err-subscript.ensures.err)
