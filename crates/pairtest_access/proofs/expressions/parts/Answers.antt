use Rattle.std.proofs.lemmas.Result.{err_from_is_err_and}
use Rattle.pairtest_access.proofs.Walks.{part_lacks}
use Rattle.pairtest_access.proofs.expressions.parts.Goals as goal

pub returns-in_err-part-clause-err : goal.returns-in_err-part-clause-err
returns-in_err-part-clause-err c =
    let p = err_from_is_err_and c.from_residual.result c.from_residual.ensures.1 in
    rw (p.1, p.2)
    (part_lacks c.args.chain.now c.args.parts.now c.loop-printed.printed-index c.printed-item.result c.in_err-part.field-0.0 c.loop-printed-test.true c.printed-item.is c.in_err-part.ensures.err)
