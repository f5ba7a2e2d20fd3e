use Rattle.std.proofs.Common.{rules, inr, refl}
use Rattle.ktree.specs.View.{exprs_of}
use Rattle.pairtest_access.proofs.Lists.{limit_lacks}
use Rattle.pairtest_access.proofs.finder.access.Goals.{in_default+in_ok-found-in_default, in-Err-Limit}
use Rattle.pairtest_access.proofs.finder.access.Goals as goal

pub returns-clause-ok : goal.returns-clause-ok
returns-clause-ok c =
    elim c.match-subscripts.branch [
      | in_default+in_ok-found-in_default w ↦ search rules
      | in-Err-Limit w ↦ rw w.is_counted-is (inr (record { lacks = limit_lacks c.args.chain.now (exprs_of c.args.expressions.now) w.in-Err-Limit.field-0 w.in-Err-Limit.field-0-0 w.in-Err-Limit.field-0-is w.in-Err-Limit.ensures.err; counted = refl }))
    ]
