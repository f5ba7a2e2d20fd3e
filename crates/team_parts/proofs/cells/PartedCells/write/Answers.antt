use Rattle.std.proofs.Common.{◌≡◌, [], ◌∷◌, length, refl, rules, true}
use Rattle.team_parts.specs.Lent.{stands}
use Rattle.team_parts.proofs.Lents.{lent_written}
use Rattle.team_parts.proofs.cells.PartedCells.write.Goals as goal

pub returns-then-fit-clause-written : goal.returns-then-fit-clause-written
returns-then-fit-clause-written c =
    let p = c.args.self.now in
    let stand : stands p.surroundings p.own.now p.reserve.now ≡ true = search rules in
    let long : length p.own.now ≡ p.surroundings.count = search rules in
    let none : p.reserve.now.items ≡ [] = search rules in
    let fits = c.fit.ensures.0 c.if-fit.true in
    lent_written p.surroundings p.own.now p.reserve.now c.args.place (c.args.n ∷ []) _ stand long none fits.0 fits.1 refl
