use Rattle.std.proofs.Common.{◌+◌, ◌<◌, ◌≤◌, ◌^◌, length, arith}
use Rattle.team_parts.specs.Parted.{parted}
use Rattle.team_parts.proofs.Lents.{all_of}
use Rattle.team_parts.proofs.Places.{own_stretch}
use Rattle.team_parts.proofs.cells.row_in.Goals as goal

pub returns-then-fit : goal.returns-then-fit
returns-then-fit c =
    let a = c.args.surroundings.now in
    let own = c.args.own.now in
    let there = c.fit.ensures.0 c.if-fit.true in
    let low : length a.before.now + a.left ≤ c.args.first = there.0 in
    let high = there.1 in
    let few : length (parted a.before.now a.left own a.right a.behind.now) < 2 ^ 63 = rw (all_of a own c.requires) a.few in
    rw c.part.ensures (own_stretch a.before.now a.left own a.right a.behind.now c.args.first c.args.count low (omega (arith, high, c.requires)) few)

pub returns : goal.returns
returns c = c.in_ok-row.ensures c.args.own.now c.requires
