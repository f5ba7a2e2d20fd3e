use Rattle.std.proofs.Common.{rules}
use Rattle.std.proofs.lemmas.Result.{err_from_is_err_and}
use Rattle.pairtest_access.proofs.Meeting.{every_met, this_met, later_met, none_wanted, site_lacks}
use Rattle.pairtest_access.proofs.finder.Finder.meet.Goals as goal

pub returns-in_ok-push-in-Every-clause-ok : goal.returns-in_ok-push-in-Every-clause-ok
returns-in_ok-push-in-Every-clause-ok c =
    every_met c.args.chain.now c.args.mode c.args.array.0 c.args.expressions.now c.args.self.now c.in_ok-found-in-Every.found c.push.new.self (search rules) c.in-Every.is c.in_ok-found-in-Every.ensures.ok
    (search rules)

pub returns-in_ok-told-in-Only-eq0-clause-ok : goal.returns-in_ok-told-in-Only-eq0-clause-ok
returns-in_ok-told-in-Only-eq0-clause-ok c =
    this_met c.args.chain.now c.args.mode c.args.array.0 c.args.expressions.now c.args.self.now c.in_ok-told-in-Only-eq0.told c.in-Only-eq0.field-0 (search rules) c.in-Only-eq0.is (search rules)
    c.in_ok-told-in-Only-eq0.ensures.ok

pub returns-in-Only-clause-ok : goal.returns-in-Only-clause-ok
returns-in-Only-clause-ok c =
    later_met c.args.chain.now c.args.mode c.args.array.0 c.args.expressions.now c.args.self.now c.in-Only.before (search rules) c.in-Only.is (search rules)

pub returns-in-Nothing-clause-ok : goal.returns-in-Nothing-clause-ok
returns-in-Nothing-clause-ok c = none_wanted c.args.chain.now c.args.mode c.args.array.0 c.args.expressions.now c.args.self.now (search rules) c.in-Nothing.is

pub returns-in_err-found-in-Every-clause-err : goal.returns-in_err-found-in-Every-clause-err
returns-in_err-found-in-Every-clause-err c =
    let p = err_from_is_err_and c.from_residual.result c.from_residual.ensures.1 in
    rw (p.1, p.2)
    (site_lacks c.args.chain.now c.args.mode c.args.array.0 c.args.expressions.now c.in_err-found-in-Every.field-0.0 (search rules) c.in_err-found-in-Every.ensures.err)

pub returns-in_err-told-in-Only-eq0-clause-err : goal.returns-in_err-told-in-Only-eq0-clause-err
returns-in_err-told-in-Only-eq0-clause-err c =
    let p = err_from_is_err_and c.from_residual-in_err-told-in-Only-eq0.result c.from_residual-in_err-told-in-Only-eq0.ensures.1 in
    rw (p.1, p.2)
    (site_lacks c.args.chain.now c.args.mode c.args.array.0 c.args.expressions.now c.in_err-told-in-Only-eq0.field-0.0 (search rules) c.in_err-told-in-Only-eq0.ensures.err)
