use Rattle.std.proofs.Common.{IfOk, subst}
use Rattle.team_worker.specs.declared.grounds.Grounds.{Grounds}
use Rattle.team_worker.specs.Ends.{AreAll}
use Rattle.team_log.specs.Logged.{joined}
use Rattle.team_worker.specs.Places.{aim_of, count_taken}
use Rattle.team.proofs.lent.lent_logs.Goals as goal

pub logs_left-requires : goal.logs_left-requires
logs_left-requires g c =
    let grounds = c.in_ok-grounds.grounds.value in
    (aim_of c.args.lowered.now grounds c.args.store.now c.in-Ok.field-0.way c.args.workers, count_taken grounds, c.in-Ok.ensures.left)

pub returns-in-Ok-clause-all : goal.returns-in-Ok-clause-all
returns-in-Ok-clause-all g c =
    let l = c.args.lowered.now in
    let ks = c.args.store.now in
    let grounds = c.in_ok-grounds.grounds.value in
    let all = c.logs_left.ensures.all (aim_of l grounds ks c.in-Ok.field-0.way c.args.workers) (count_taken grounds) c.in-Ok.ensures.left in
    subst (λ (from : Grounds). IfOk c.logs_left.result (λ logs. AreAll l from.registers.items ks from.pass from.chunks (joined logs.items))) c.in_ok-grounds.ensures.ok all
