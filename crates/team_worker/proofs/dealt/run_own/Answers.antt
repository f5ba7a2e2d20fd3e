use Rattle.std.proofs.Common.{[], sym, subst}
use Rattle.team_worker.specs.Ends.{IsAccountOf}
use Rattle.team_worker.proofs.Accounts.{account_none}
use Rattle.team_worker.proofs.dealt.run_own.Goals as goal

pub run_dealt-requires-clause-log : goal.run_dealt-requires-clause-log
run_dealt-requires-clause-log g c =
    let job = c.args.job in
    subst (IsAccountOf job []) (sym c.requires.log) (account_none job.lowered.now job.registers.now job.store.now job.pass.now job.chunks.now)
