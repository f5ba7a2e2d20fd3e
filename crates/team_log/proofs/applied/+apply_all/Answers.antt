use Rattle.std.proofs.Common.{◌≡◌, List, ◌∷◌, sym, subst, rules}
use Rattle.store.specs.Flat.{values_of}
use Rattle.team_log.specs.Applied.{AreApplied}
use Rattle.team_log.specs.Logged.{Account, joined}
use Rattle.team_log.proofs.Applying.{applied_both}
use Rattle.team_log.proofs.applied.+apply_all.Goals as goal

pub returns-clause-applied : goal.returns-clause-applied
returns-clause-applied t c =
    let log = c.in-Some.log.now in
    let rest = c.in-Some.rest.now in
    let before = values_of c.args.store.now in
    let after = values_of c.apply_all.new.store in
    let whole : c.args.logs.now ≡ log ∷ rest = search rules in
    subst (λ (ls : List Account). AreApplied before after (joined ls).chunks) (sym whole)
    (applied_both before (values_of c.apply.new.store) after log.chunks (joined rest).chunks c.apply.ensures.applied c.apply_all.ensures.applied)
