use Rattle.std.proofs.Common.{List, subst}
use Rattle.semantics.specs.Loops.Chunk.{Kind}
use Rattle.schedule.specs.Sched.{kind_said}
use Rattle.store.specs.Kept.{Kept}
use Rattle.store.specs.Flat.{AreFilled}
use Rattle.team_worker.specs.declared.pass.Pass.TheVariants.{Plain}
use Rattle.team_log.specs.Logged.{Account, joined}
use Rattle.team.specs.Passed.{IsPassed, BeginsIn}
use Rattle.team_log.specs.Spots.{IsPut}
use Rattle.team.proofs.Merging.{together, long_after}
use Rattle.team.proofs.Texts.{begins_plain}
use Rattle.team.proofs.teamwork.share_loop.Goals as goal

pub returns-in_err-logs-clause-beginning : goal.returns-in_err-logs-clause-beginning
returns-in_err-logs-clause-beginning g c =
    let l = c.args.lowered.now in
    let told = g.S.Sink.told c.args.sink.now in
    let after = g.S.Sink.told c.run_pass.new.sink in
    begins_plain l c.args.registers.now c.args.store.now (kind_said l.schedule c.args.runtime) c.args.workers told after
    (subst (λ (k : Kind). BeginsIn Plain l c.args.registers.now c.args.store.now told after k c.args.workers) c.sched_of-sched.ensures c.run_pass.ensures.beginning)

pub returns-clause-beginning : goal.returns-clause-beginning
returns-clause-beginning g c =
    let l = c.args.lowered.now in
    let told = g.S.Sink.told c.args.sink.now in
    let after = g.S.Sink.told c.run_pass.new.sink in
    begins_plain l c.args.registers.now c.args.store.now (kind_said l.schedule c.args.runtime) c.args.workers told after
    (subst (λ (k : Kind). BeginsIn Plain l c.args.registers.now c.args.store.now told after k c.args.workers) c.sched_of-sched.ensures c.run_pass.ensures.beginning)

pub returns-clause-leaves : goal.returns-clause-leaves
returns-clause-leaves g c =
    let l = c.args.lowered.now in
    let account = joined c.in_ok-logs.logs.items in
    let registers = c.args.registers.now in
    let ks = c.args.store.now in
    let behind = c.put_together.new.registers in
    let now = c.put_together.new.store in
    let kind = kind_said l.schedule c.args.runtime in
    let told = g.S.Sink.told c.args.sink.now in
    let after = g.S.Sink.told c.run_pass.new.sink in
    let passed = subst (λ (k : Kind). IsPassed l registers ks Plain k c.args.workers account told after) c.sched_of-sched.ensures c.in_ok-logs.ensures.passed in
    let filled = subst AreFilled c.in_ok-logs.ensures.store c.confirm_filled.ensures in
    let from_logs = subst (λ (logs : List Account). IsPut l.roles (joined logs) registers behind c.run_pass.new.store now) c.as_slice.ensures.value c.put_together.ensures.put in
    let put = subst (λ (k : List Kept). IsPut l.roles account registers behind k now) c.in_ok-logs.ensures.store from_logs in
    together l registers behind ks now kind c.args.workers account told after filled passed.of put passed.printed

pub returns-clause-long : goal.returns-clause-long
returns-clause-long g c =
    long_after c.args.lowered.now (joined c.as_slice.result.now) c.args.registers.now c.put_together.new.registers c.run_pass.new.store c.put_together.new.store c.put_together.ensures.put
