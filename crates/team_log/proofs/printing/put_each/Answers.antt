use Rattle.std.proofs.Common.{arith}
use Rattle.team_log.proofs.Texts.{begun_text}
use Rattle.team_log.proofs.printing.put_each.Goals as goal

pub returns-in_err-put_all-clause-beginning : goal.returns-in_err-put_all-clause-beginning
returns-in_err-put_all-clause-beginning g c =
    let facts = c.in_err-put_all.ensures.beginning in
    begun_text c.args.texts.now c.loop-text.text-index _ _ _ _ (omega arith) c.loop-text.invariant.told facts
