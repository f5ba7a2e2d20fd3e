use Rattle.std.proofs.Common.{◌≡◌, ◌+◌, ◌-◌, ◌≤◌, [], length, subst, sym, ◌∙◌, rules, arith, true}
use Rattle.store.specs.Filling.{row_of}
use Rattle.store.proofs.Rows.{length_row}
use Rattle.lower_op.proofs.Stretching.{overlaid_beside}
use Rattle.team_parts.specs.Lent.{stands}
use Rattle.team_parts.proofs.Lents.{lent_written}
use Rattle.team_parts.proofs.cells.PartedCells.fill.Goals as goal

pub returns-then-fit-clause-filled : goal.returns-then-fit-clause-filled
returns-then-fit-clause-filled g c _ =
    let p = c.args.self.now in
    let ns = row_of (g.F.Filler.number c.args.filler.now) c.args.count in
    let count : length ns ≡ c.args.count = length_row (g.F.Filler.number c.args.filler.now) c.args.count in
    let front = length p.surroundings.before.now + p.surroundings.left in
    let stand : stands p.surroundings p.own.now p.reserve.now ≡ true = search rules in
    let long : length p.own.now ≡ p.surroundings.count = search rules in
    let none : p.reserve.now.items ≡ [] = search rules in
    let fits = c.fit.ensures.0 c.if-fit.true in
    let low : front ≤ c.args.first = fits.0 in
    let high : c.args.first + length ns ≤ front + p.surroundings.count = let h = fits.1 in omega (arith, h, count) in
    let inside : c.args.first - front + length ns ≤ length p.own.now = omega (arith, low, high, long) in
    lent_written p.surroundings p.own.now p.reserve.now c.args.first ns c.fill_cells.new.cells stand long none low high
    (c.fill_cells.ensures ∙ overlaid_beside p.own.now (c.args.first - front) ns inside)
