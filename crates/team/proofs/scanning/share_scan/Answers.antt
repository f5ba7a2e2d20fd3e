use Rattle.std.proofs.Common.{◌≡◌, ℕ, ◌+◌, List, length, refl, ap, ◌∙◌, subst}
use Rattle.std.specs.Prelude.{slice_index}
use Rattle.semantics.specs.Loops.Chunk.{PlainStatic}
use Rattle.store.specs.Kept.{Kept}
use Rattle.store.specs.Flat.{AreFilled}
use Rattle.team_worker.specs.declared.pass.Pass.TheVariants.{Second}
use Rattle.team_log.specs.Logged.{Account, joined}
use Rattle.team.specs.Passed.{IsPassed, BeginsIn}
use Rattle.team_log.specs.Spots.{IsScanPut, scanned}
use Rattle.team.proofs.Merging.{long_by}
use Rattle.team_log.proofs.Standing.{scanned_long}
use Rattle.team.proofs.TwoPasses.{scans_together, scans_begin}
use Rattle.team.proofs.scanning.share_scan.Goals as goal

pub returns-in_err-logs-clause-beginning : goal.returns-in_err-logs-clause-beginning
returns-in_err-logs-clause-beginning g c =
    let told = g.S.Sink.told c.args.sink.now in
    let after = g.S.Sink.told c.run_pass.new.sink in
    let pass = Second c.in_ok-starts.starts in
    scans_begin c.args.first.now c.args.second.now c.args.registers.now c.args.store.now c.args.workers c.in_ok-starts.starts c.in_ok-starts.starts.items (λ number. refl) c.in_ok-starts.ensures.starts told after
    (subst (λ (k : List Kept). BeginsIn pass c.args.second.now c.args.registers.now k told after PlainStatic c.args.workers) c.in_ok-starts.ensures.store c.run_pass.ensures.beginning)

pub returns-clause-beginning : goal.returns-clause-beginning
returns-clause-beginning g c =
    let told = g.S.Sink.told c.args.sink.now in
    let after = g.S.Sink.told c.run_pass.new.sink in
    let pass = Second c.in_ok-starts.starts in
    scans_begin c.args.first.now c.args.second.now c.args.registers.now c.args.store.now c.args.workers c.in_ok-starts.starts c.in_ok-starts.starts.items (λ number. refl) c.in_ok-starts.ensures.starts told after
    (subst (λ (k : List Kept). BeginsIn pass c.args.second.now c.args.registers.now k told after PlainStatic c.args.workers) c.in_ok-starts.ensures.store c.run_pass.ensures.beginning)

pub returns-clause-leaves : goal.returns-clause-leaves
returns-clause-leaves g c =
    let l = c.args.second.now in
    let account = joined c.in_ok-logs.logs.items in
    let registers = c.args.registers.now in
    let ks = c.args.store.now in
    let behind = c.put_together.new.registers in
    let now = c.put_together.new.store in
    let told = g.S.Sink.told c.args.sink.now in
    let after = g.S.Sink.told c.run_pass.new.sink in
    let pass = Second c.in_ok-starts.starts in
    let starts = c.in_ok-starts.starts.items in
    let value = c.last_number-value.result in
    let same = c.in_ok-logs.ensures.store ∙ c.in_ok-starts.ensures.store in
    let passed = subst (λ (k : List Kept). IsPassed l registers k pass PlainStatic c.args.workers account told after) c.in_ok-starts.ensures.store c.in_ok-logs.ensures.passed in
    let filled = subst AreFilled same c.confirm_filled.ensures in
    let from_logs = subst (λ (logs : List Account). IsScanPut value l.roles (joined logs) registers behind c.run_pass.new.store now) c.as_slice-2.ensures.value c.put_together.ensures.put in
    let put = subst (λ (k : List Kept). IsScanPut value l.roles account registers behind k now) same from_logs in
    let last : (count : ℕ) → length starts ≡ count + 1 → value ≡ slice_index starts count = λ count is.
    c.last_number-value.ensures count (ap (λ (k : List ℕ). length k) c.as_slice.ensures.value ∙ is) ∙ ap (λ (k : List ℕ). slice_index k count) c.as_slice.ensures.value in
    scans_together c.args.first.now l registers behind ks now c.args.workers c.in_ok-starts.starts starts (λ number. refl) c.in_ok-starts.ensures.starts value last account told after filled passed put

pub returns-clause-long : goal.returns-clause-long
returns-clause-long g c =
    let l = c.args.second.now in
    let value = c.last_number-value.result in
    long_by (scanned l.roles.reductions.items value) l (joined c.as_slice-2.result.now) c.args.registers.now c.put_together.new.registers c.run_pass.new.store c.put_together.new.store (scanned_long l.roles.reductions.items value) c.put_together.ensures.put
