use Rattle.std.proofs.Common.{◌+◌, ◌<◌, ◌≤◌, ◌^◌, length, arith}
use Rattle.team_parts.specs.Parted.{parted}
use Rattle.team_parts.proofs.Lents.{all_of}
use Rattle.team_parts.proofs.Places.{behind_stretch, before_stretch}
use Rattle.team_parts.proofs.cells.lent_row.Goals as goal

pub returns-then-fit : goal.returns-then-fit
returns-then-fit c own long =
    let a = c.args.surroundings.now in
    let there = c.fit.ensures.0 c.if-fit.true in
    let high = there.1 in
    let few : length (parted a.before.now a.left own a.right a.behind.now) < 2 ^ 63 = rw (all_of a own long) a.few in
    rw c.part.ensures (before_stretch a.before.now a.left own a.right a.behind.now c.args.first c.args.count (omega (arith, high)) few)

pub returns-then-fit-2 : goal.returns-then-fit-2
returns-then-fit-2 c own long =
    let a = c.args.surroundings.now in
    let there = c.fit-2.ensures.0 c.if-fit-2.true in
    let few : length (parted a.before.now a.left own a.right a.behind.now) < 2 ^ 63 = rw (all_of a own long) a.few in
    rw (c.part-then-fit-2.ensures, ← long) (behind_stretch a.before.now a.left own a.right a.behind.now c.args.first c.args.count (rw long there.0) (rw long there.1) few)
