-- The part that is one worker's.
use Rattle.std.proofs.Common.{arith, rules}
use Rattle.std.specs.Prelude.{slice_index}
use Rattle.team_scans.specs.Placed.{IsPartDone}
use Rattle.team_in_place.specs.Scanning.{share_first, share_turns}
use Rattle.team_in_place.proofs.Shares.{one_done}
use Rattle.team_in_place.proofs.scan_sharing.scan_one.Goals as goal

pub returns : goal.returns
returns g c =
    let s = c.args.team.now.prefixes in
    let workers = c.args.team.now.workers in
    let worker = c.args.worker in
    let done : IsPartDone s (slice_index c.args.starts.now 0) (share_first c.args.team.now.head s.count workers worker) (share_turns c.args.team.now.head s.count workers worker 1) c.args.own.now c.scan_part.new.own c.into_registers.result.items = search rules in
    one_done s c.args.team.now.head workers worker (omega (arith, c.requires.worker)) c.args.starts.now c.args.own.now c.scan_part.new.own c.into_registers.result.items done
