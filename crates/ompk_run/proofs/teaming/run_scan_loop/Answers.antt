use Rattle.std.proofs.Common.{ℕ, List, length, ◌≡◌, ◌≤◌, ◌<◌, ◌++◌, ◌∙◌, sym, ap, subst, take, drop, rules, arith}
use Rattle.ktree.specs.View.{stmt_of}
use Rattle.law_apart.specs.Apart.{handed}
use Rattle.outline.specs.View.{roles_in}
use Rattle.team.specs.Together.{ScansTogether, ScansBeginning}
use Rattle.lower_machine.specs.Machine.{Fits, machine}
use Rattle.lower_run.proofs.Restored.{put_back}
use Rattle.store.specs.Flat.{values_of}
use Rattle.lower_run.specs.Walk.{Arrives}
use Rattle.ompk_run.proofs.Scanning.{scanned_so, scan_arrives, scan_begins}
use Rattle.ompk_run.proofs.teaming.run_scan_loop.Goals as goal

pub returns-clause-ran : goal.returns-clause-ran
returns-clause-ran g c layout mark R serial fits s stand some =
    let l = c.args.construct.now in
    let first = c.args.first.now in
    let least : 1 ≤ c.get-workers.result = c.get-workers.ensures.least in
    let many : c.get-workers.result ≡ c.args.team.now.workers = c.get-workers.ensures.value in
    let workers_there : 0 < c.args.team.now.workers = omega arith in
    let ks = c.args.store.now in
    let ks' = c.share_scan.new.store in
    let old = c.args.registers.now.items in
    let new = c.share_scan.new.registers in
    let text = g.S.Sink.told c.args.sink.now in
    let text' = g.S.Sink.told c.share_scan.new.sink in
    let size : c.args.registers.now.len ≡ length old = search rules in
    let count : length new ≡ length old = c.share_scan.ensures.long ∙ ap (λ (l : List ℕ). length l) c.as_mut_slice.ensures.value in
    let back : take c.args.registers.now.len (new ++ drop (length new) old) ≡ new = put_back c.args.registers.now.len new old (omega arith) (omega arith) in
    let leaves = subst (λ r. ScansTogether first l.lowered r new ks ks' text text' c.args.team.now.workers) c.as_mut_slice.ensures.value c.in_ok-share_scan.ensures.leaves in
    let words : Fits (machine new (values_of ks')) = rw (c.as_slice.ensures.value ∙ back) at c.confirm_words.ensures.words in
    subst (λ rs. Arrives layout mark (handed (roles_in R l) serial (stmt_of l.statement.now) s) s rs ks' text text') (sym back)
    (scan_arrives layout mark s old ks stand R serial l fits first (scanned_so layout mark R serial l fits first c.requires.scan) c.args.team.now.workers workers_there text text' new ks' leaves c.share_scan.ensures.shape words c.confirm_words.ensures.room some)

pub returns-clause-beginning : goal.returns-clause-beginning
returns-clause-beginning g c layout mark R serial fits s stand some =
    let l = c.args.construct.now in
    let first = c.args.first.now in
    let least : 1 ≤ c.get-workers.result = c.get-workers.ensures.least in
    let many : c.get-workers.result ≡ c.args.team.now.workers = c.get-workers.ensures.value in
    let workers_there : 0 < c.args.team.now.workers = omega arith in
    let ks = c.args.store.now in
    let text = g.S.Sink.told c.args.sink.now in
    let text' = g.S.Sink.told c.share_scan.new.sink in
    let begins = subst (λ r. ScansBeginning first l.lowered r ks text text' c.args.team.now.workers) c.as_mut_slice.ensures.value c.share_scan.ensures.beginning in
    scan_begins layout mark s c.args.registers.now.items ks stand R serial l fits first (scanned_so layout mark R serial l fits first c.requires.scan) c.args.team.now.workers workers_there text text' begins some

pub returns-in_err-share_scan-clause-beginning : goal.returns-in_err-share_scan-clause-beginning
returns-in_err-share_scan-clause-beginning g c layout mark R serial fits s stand some =
    let l = c.args.construct.now in
    let first = c.args.first.now in
    let least : 1 ≤ c.get-workers.result = c.get-workers.ensures.least in
    let many : c.get-workers.result ≡ c.args.team.now.workers = c.get-workers.ensures.value in
    let workers_there : 0 < c.args.team.now.workers = omega arith in
    let ks = c.args.store.now in
    let text = g.S.Sink.told c.args.sink.now in
    let text' = g.S.Sink.told c.share_scan.new.sink in
    let begins = subst (λ r. ScansBeginning first l.lowered r ks text text' c.args.team.now.workers) c.as_mut_slice.ensures.value c.share_scan.ensures.beginning in
    scan_begins layout mark s c.args.registers.now.items ks stand R serial l fits first (scanned_so layout mark R serial l fits first c.requires.scan) c.args.team.now.workers workers_there text text' begins some
