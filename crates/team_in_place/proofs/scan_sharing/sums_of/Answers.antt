-- What the shares of all workers add.
use Rattle.std.proofs.Common.{◌≡◌, ◌*◌, ◌<◌, ◌++◌, length, take, drop, sym, ap, subst, ◌∙◌, arith, rules}
use Rattle.lower_run.proofs.Restored.{put_back}
use Rattle.team_in_place.specs.Scanning.{AreSums, share_turns}
use Rattle.team_in_place.proofs.Shares.{width_all}
use Rattle.team_in_place.proofs.scan_sharing.sums_of.Goals as goal

pub add_shares-requires-clause-own : goal.add_shares-requires-clause-own
add_shares-requires-clause-own g c κs within =
    let t = c.args.team.now in
    let s = t.prefixes in
    let enough = t.enough in
    let some : 0 < t.workers = omega (arith, c.get-workers.ensures.value, c.get-workers.ensures.least) in
    c.requires.own ∙ sym (width_all s t.head t.workers some (omega (arith, enough))) ∙ ap (λ n. s.window.width * share_turns t.head s.count t.workers 0 n) (sym c.get-workers.ensures.value)

pub returns-clause-sums : goal.returns-clause-sums
returns-clause-sums g c =
    let t = c.args.team.now in
    let size = c.in_ok-sums.sums.len in
    let zeros = c.in_ok-sums.sums.items in
    let sums = c.add_shares.new.sums in
    let number = c.get-workers.result in
    let summed : take size (sums ++ drop (length sums) zeros) ≡ sums = put_back size sums zeros (search rules) (search rules) in
    let adds : AreSums t.prefixes t.head t.workers 0 number c.args.own.now sums = search rules in
    subst (AreSums t.prefixes t.head t.workers 0 t.workers c.args.own.now) (sym summed)
    (subst (λ n. AreSums t.prefixes t.head t.workers 0 n c.args.own.now sums) c.get-workers.ensures.value adds)
