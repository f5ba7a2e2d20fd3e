use Rattle.std.proofs.Common.{[], sym, subst, ◌∙◌}
use Rattle.team_worker.specs.Ends.{IsAccountOf}
use Rattle.team_worker.proofs.Accounts.{account_none}
use Rattle.team_worker.proofs.worker.work.Goals as goal

pub run_drawn-requires-clause-log : goal.run_drawn-requires-clause-log
run_drawn-requires-clause-log g c =
    let job = c.args.job in
    subst (IsAccountOf job []) (sym (c.deref_mut.ensures.value ∙ c.in_ok-log.ensures)) (account_none job.lowered.now job.registers.now job.store.now job.pass.now job.chunks.now)
