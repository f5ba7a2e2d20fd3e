use Rattle.std.proofs.Common.{refl, ap, length}
use Rattle.pairtest_access.proofs.Meeting.{are_found}
use Rattle.pairtest_access.proofs.body.accesses.Goals as goal

pub returns-clause-ok : goal.returns-clause-ok
returns-clause-ok c =
    let ok = c.in_ok-_left.ensures.ok in
    (ok.0, ok.1, are_found ok.0 _ c.statement.new.finder (length c.args.chain.now.levels) (ap (λ vs. length vs) c.levels.ensures.all) refl c.new.ensures.items ok.2)
