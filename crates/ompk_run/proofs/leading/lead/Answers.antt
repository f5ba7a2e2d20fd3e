use Rattle.std.proofs.lemmas.Result.{on_ok_weaker}
use Rattle.ompk_run.proofs.leading.lead.Goals as goal

pub returns-clause-ran : goal.returns-clause-ran
returns-clause-ran g c = on_ok_weaker c.team_block-end.result (λ walked. record { walked = walked }) c.team_block-end.ensures.ran

pub returns-clause-beginning : goal.returns-clause-beginning
returns-clause-beginning g c = record { begun = c.team_block-end.ensures.beginning }
