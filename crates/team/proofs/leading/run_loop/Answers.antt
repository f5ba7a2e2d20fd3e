use Rattle.std.proofs.lemmas.Result.{on_ok_weaker}
use Rattle.team.proofs.leading.run_loop.Goals as goal

pub returns-clause-leaves : goal.returns-clause-leaves
returns-clause-leaves g c = on_ok_weaker c.run.result (λ left. left.together) c.run.ensures.leaves

pub returns-clause-beginning : goal.returns-clause-beginning
returns-clause-beginning g c = c.run.ensures.beginning.together
