use Rattle.std.proofs.Common.{◌≡◌, ◌+◌, ◌≤◌, [], length, drop, sym, ap, ◌∙◌, arith, rules}
use Rattle.std.proofs.lemmas.List.{length-take, length-drop}
use Rattle.team_parts.proofs.Lents.{inside_of}
use Rattle.team_parts.proofs.cells.settle.Goals as goal

pub part-requires : goal.part-requires
part-requires c =
    let p = c.args.cells.now in
    let room : p.reserve.now.room ≡ p.surroundings.all = search rules in
    let some : p.reserve.now.items ≡ [] → ⊥ = search rules in
    inside_of p.surroundings p.reserve.now c.numbers.result.now room some c.numbers.ensures.items c.numbers.ensures.all

pub copy_from_slice-requires : goal.copy_from_slice-requires
copy_from_slice-requires c =
    let p = c.args.cells.now in
    let a = p.surroundings in
    let room : p.reserve.now.room ≡ a.all = search rules in
    let own : length p.own.now ≡ a.count = search rules in
    let some : p.reserve.now.items ≡ [] → ⊥ = search rules in
    let inside : length a.before.now + a.left + a.count ≤ length c.numbers.result.now = inside_of a p.reserve.now c.numbers.result.now room some c.numbers.ensures.items c.numbers.ensures.all in
    let long : length c.part.result.now ≡ a.count = ap length c.part.ensures ∙ length-take a.count (drop (length a.before.now + a.left) c.numbers.result.now) ∙ (let d = length-drop (length a.before.now + a.left) c.numbers.result.now in omega (arith, d, inside)) in
    own ∙ sym long
