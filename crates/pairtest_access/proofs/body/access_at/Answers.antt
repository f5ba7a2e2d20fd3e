use Rattle.std.proofs.Common.{refl, ap, length}
use Rattle.pairtest_access.proofs.Meeting.{one_is_told}
use Rattle.pairtest_access.proofs.body.access_at.Goals as goal

pub returns-clause-ok : goal.returns-clause-ok
returns-clause-ok c =
    let ok = c.in_ok-_left.ensures.ok in
    (ok.0, ok.1, one_is_told ok.0 c.args.number _ c.statement.new.finder (length c.args.chain.now.levels) (ap (λ vs. length vs) c.levels.ensures.all) refl refl ok.2)
