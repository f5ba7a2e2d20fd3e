-- The one sum.
use Rattle.std.proofs.Common.{◌≡◌, arith, rules}
use Rattle.std.specs.Prelude.{slice_index, slice_set}
use Rattle.team_scans.specs.Placed.{IsSum}
use Rattle.team_in_place.specs.Scanning.{share_first, share_turns}
use Rattle.team_in_place.proofs.Shares.{one_sum}
use Rattle.team_in_place.proofs.scan_sharing.add_one.Goals as goal

pub returns-clause-sums : goal.returns-clause-sums
returns-clause-sums g c =
    let s = c.args.team.now.prefixes in
    let workers = c.args.team.now.workers in
    let worker = c.args.worker in
    let sum = c.in_ok-sums.field-0 in
    let held : slice_index (slice_set c.args.sums.now 0 sum) 0 ≡ sum = search rules in
    let is : IsSum s (share_first c.args.team.now.head s.count workers worker) (share_turns c.args.team.now.head s.count workers worker 1) c.args.own.now sum = search rules in
    one_sum s c.args.team.now.head workers worker (omega (arith, c.requires.worker)) c.args.own.now (slice_set c.args.sums.now 0 sum) sum held is
