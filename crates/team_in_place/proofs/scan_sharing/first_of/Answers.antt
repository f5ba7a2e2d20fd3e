use Rattle.std.proofs.Common.{arith}
use Rattle.team_in_place.proofs.Shares.{share_within}
use Rattle.team_in_place.proofs.scan_sharing.first_of.Goals as goal

pub returns-clause-within : goal.returns-clause-within
returns-clause-within g c =
    let t = c.args.team.now in
    let enough = t.enough in
    share_within t.head t.prefixes.count c.get-workers.result (omega (arith, c.get-workers.ensures.least)) (omega (arith, enough)) c.args.worker (omega (arith, c.requires, c.get-workers.ensures.value))
