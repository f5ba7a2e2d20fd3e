-- The operands over the cells in parts are those over all, and the own cells stay.
use Rattle.std.proofs.Common.{◌≡◌, ◌+◌, ◌-◌, ◌*◌, List, ℕ, [], true, take, drop, length, ◌∙◌, sym, ap, rules}
use Rattle.team_parts.specs.Lent.{lent_cells, stands}
use Rattle.team_parts.specs.Parted.{parted}
use Rattle.team_parts.proofs.Lents.{lent_fresh, stands_of}
use Rattle.team_scans.specs.Operands.{added}
use Rattle.team_scans.proofs.Sums.{own_part, stays, sum_is}
use Rattle.team_scans.proofs.adding.add_part.Goals as goal

pub returns-clause-sum : goal.returns-clause-sum
returns-clause-sum c =
    let s = c.args.prefixes in
    let from = c.args.from in
    let count = c.args.count in
    let mine = c.args.own.now in
    let width = s.window.width in
    let a = c.in-Some.surroundings in
    let w = c.make_room.new.self in
    let own : a.count ≡ width * count = search rules in
    let room : w.room ≡ a.all = search rules in
    let stand : stands a mine w ≡ true = stands_of a mine w (c.requires.own ∙ sym own) room in
    let none : w.items ≡ [] = search rules in
    let is : parted a.before.now a.left mine a.right a.behind.now ≡ parted s.before.now (width * from) mine (width * (s.count - from - count)) s.behind.now = search rules in
    let whole : lent_cells a mine w ≡ parted s.before.now (width * from) mine (width * (s.count - from - count)) s.behind.now = lent_fresh a mine w stand none ∙ is in
    sum_is s from count mine c.add_among-sum.result c.hold_numbers.ensures c.requires.within c.requires.own (c.add_among-sum.ensures.sum ∙ ap (λ (l : List ℕ). added s l from 0 count) whole)

pub returns-clause-kept : goal.returns-clause-kept
returns-clause-kept c =
    let s = c.args.prefixes in
    let mine = c.args.own.now in
    let a = c.in-Some.surroundings in
    let w = c.make_room.new.self in
    let own : a.count ≡ s.window.width * c.args.count = search rules in
    let room : w.room ≡ a.all = search rules in
    let stand : stands a mine w ≡ true = stands_of a mine w (c.requires.own ∙ sym own) room in
    let none : w.items ≡ [] = search rules in
    let cells : lent_cells a mine w ≡ parted a.before.now a.left mine a.right a.behind.now = lent_fresh a mine w stand none in
    stays _ (take (length mine) (drop (length a.before.now + a.left) (lent_cells a mine w))) mine (search rules)
    (ap (λ (l : List ℕ). take (length mine) (drop (length a.before.now + a.left) l)) cells ∙ own_part a.before.now a.left mine a.right a.behind.now)
