-- The shares of all workers are all turns behind those in front of them.
use Rattle.std.proofs.Common.{◌≡◌, ℕ, ◌*◌, ◌<◌, sym, ap, subst, ◌∙◌, arith, rules}
use Rattle.std.specs.Prelude.{slice_index}
use Rattle.team_in_place.specs.Scanning.{AreSharesDone, share_turns, start_of}
use Rattle.team_in_place.proofs.Shares.{all_shares, width_all}
use Rattle.team_in_place.proofs.scan_sharing.scan_behind.Goals as goal

pub scan_shares-requires-clause-own : goal.scan_shares-requires-clause-own
scan_shares-requires-clause-own g c κs within =
    let t = c.args.team.now in
    let s = t.prefixes in
    let enough = t.enough in
    let some : 0 < t.workers = omega (arith, c.get-workers.ensures.value, c.get-workers.ensures.least) in
    c.requires.own ∙ sym (width_all s t.head t.workers some (omega (arith, enough))) ∙ ap (λ n. s.window.width * share_turns t.head s.count t.workers 0 n) (sym c.get-workers.ensures.value)

pub returns : goal.returns
returns g c =
    let t = c.args.team.now in
    let s = t.prefixes in
    let enough = t.enough in
    let own = c.args.own.now in
    let sums = c.args.sums.now in
    let starts = c.begin_shares.new.sums in
    let many = c.requires.many in
    let some : 0 < t.workers = omega (arith, c.get-workers.ensures.value, c.get-workers.ensures.least) in
    let begin : (k : ℕ) → k < t.workers → slice_index starts k ≡ start_of c.args.first sums k = λ k lt. c.begin_shares.ensures k (omega (arith, lt, many)) in
    let rs = c.in_ok-registers.registers.items in
    let done : AreSharesDone s t.head t.workers 0 c.get-workers.result starts own c.scan_shares.new.own rs = search rules in
    all_shares s t.head t.workers some (omega (arith, enough)) own c.args.first sums starts c.requires.sums begin c.scan_shares.new.own rs
    (subst (λ n. AreSharesDone s t.head t.workers 0 n starts own c.scan_shares.new.own rs) c.get-workers.ensures.value done)
