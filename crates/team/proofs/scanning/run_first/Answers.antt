use Rattle.std.proofs.Common.{◌≡◌, ℕ, List, length, map, subst, ◌∙◌}
use Rattle.reduce.specs.declared.partial.Partial.{Partial}
use Rattle.reduce.specs.Partial.{partial_of}
use Rattle.store.specs.Kept.{Kept}
use Rattle.store.specs.Flat.{values_of}
use Rattle.lower_machine.specs.Machine.{machine}
use Rattle.lower.specs.declared.roles.LoweredReduction.{LoweredReduction}
use Rattle.team_worker.specs.declared.pass.Pass.{Pass}
use Rattle.team_worker.specs.declared.pass.Pass.TheVariants.{Plain}
use Rattle.team_worker.specs.Ends.{AreAll}
use Rattle.team_log.specs.Logged.{joined}
use Rattle.team_log.specs.Scanned.{StartFrom, partials_in_order}
use Rattle.team.proofs.TwoPasses.{first_starts}
use Rattle.team.proofs.scanning.run_first.Goals as goal

pub returns-clause-starts : goal.returns-clause-starts
returns-clause-starts g c =
    let l = c.args.first.now in
    let grounds = c.in_ok-grounds.grounds in
    let account = joined c.in_ok-logs.logs.items in
    let ks = c.args.store.now in
    let partials = c.in_ok-partials.partials.items in
    let starts = c.in_ok-starts_from.field-0.items in
    let all = subst (λ (rs : List ℕ). AreAll l rs ks Plain grounds.chunks account) c.in_ok-grounds.ensures.registers (subst (λ (p : Pass). AreAll l grounds.registers.items ks p grounds.chunks account) c.in_ok-grounds.ensures.pass c.in_ok-logs.ensures.all) in
    let told : map partial_of partials ≡ partials_in_order (length grounds.chunks) account.chunks = c.in_ok-partials.ensures ∙ (λ i. partials_in_order (c.len-count.ensures i) (joined (c.as_slice.ensures.value i)).chunks) in
    let from = c.in_ok-starts_from.ensures in
    let by_reductions = subst (λ (rs : List LoweredReduction). StartFrom rs (machine c.args.registers.now (values_of c.loop_logs.new.store)) (map partial_of c.as_slice-2.result.now) starts) c.as_slice-reductions.ensures.value from in
    let by_store = subst (λ (k : List Kept). StartFrom l.roles.reductions.items (machine c.args.registers.now (values_of k)) (map partial_of c.as_slice-2.result.now) starts) c.in_ok-logs.ensures.store by_reductions in
    let by_partials = subst (λ (ps : List Partial). StartFrom l.roles.reductions.items (machine c.args.registers.now (values_of ks)) (map partial_of ps) starts) c.as_slice-2.ensures.value by_store in
    first_starts l c.args.registers.now ks c.args.workers grounds.space grounds.chunks account (map partial_of partials) starts c.in_ok-grounds.ensures.split c.in_ok-grounds.ensures.chunks all told by_partials
