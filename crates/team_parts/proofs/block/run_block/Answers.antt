-- The own cells are what all turns leave there.
use Rattle.std.proofs.Common.{◌≡◌, ◌-◌, ◌*◌, ◌++◌, [], true, refl, take, drop, length, ◌∙◌, sym, ap, subst, rules}
use Rattle.lane_rows.specs.Lanes.{stepped}
use Rattle.law_lanes.specs.Lanes.{AreLanes, turns}
use Rattle.lower_machine.specs.Machine.{Machine, machine}
use Rattle.team_parts.specs.Lent.{lent_cells, stands}
use Rattle.team_parts.specs.Parted.{parted}
use Rattle.team_parts.specs.Turned.{ops_of, variable_of}
use Rattle.team_parts.proofs.Blocks.{part_done, put_back}
use Rattle.team_parts.proofs.Lents.{lent_fresh, stands_of}
use Rattle.team_parts.proofs.block.run_block.Goals as goal

-- src/block.rt
pub returns : goal.returns
returns c =
    let s = c.args.shared in
    let from = c.args.from in
    let count = c.args.count in
    let mine = c.args.own.now in
    let width = s.window.width in
    let first = stepped s.first s.by from in
    let a = c.in-Some.surroundings in
    let w = c.make_room.new.self in
    let r = c.run_among.new.cells in
    let cells = lent_cells r.surroundings r.own.now r.reserve.now in
    let registers : take c.copy_into.new.to.len (c.run_among.new.registers ++ drop (length c.run_among.new.registers) c.copy_into.new.to.items) ≡ c.run_among.new.registers = put_back c.copy_into.new.to.len c.run_among.new.registers c.copy_into.new.to.items (search rules) in
    let own : a.count ≡ width * count = search rules in
    let room : w.room ≡ a.all = search rules in
    let stand : stands a mine w ≡ true = stands_of a mine w (c.requires.own ∙ sym own) room in
    let none : w.items ≡ [] = search rules in
    let is : parted a.before.now a.left mine a.right a.behind.now ≡ parted s.before.now (width * from) mine (width * (s.count - from - count)) s.behind.now = search rules in
    let whole : lent_cells a mine w ≡ parted s.before.now (width * from) mine (width * (s.count - from - count)) s.behind.now = lent_fresh a mine w stand none ∙ is in
    let held : c.as_mut_slice-registers.result.now ≡ s.registers.now = search rules in
    let start : machine c.as_mut_slice-registers.result.now (lent_cells a mine w) ≡ machine s.registers.now (parted s.before.now (width * from) mine (width * (s.count - from - count)) s.behind.now)
    = ap (λ rs. machine rs (lent_cells a mine w)) held ∙ ap (machine s.registers.now) whole in
    let ran = subst (λ (m : Machine). AreLanes (variable_of s.turned) (stepped first s.by) (ops_of s.turned) count m → machine c.run_among.new.registers cells ≡ turns (variable_of s.turned) (stepped first s.by) (ops_of s.turned) count m)
    start c.run_among.ensures.does in
    rw registers (part_done s from count first mine _ (machine c.run_among.new.registers cells) c.requires.within c.requires.own refl ran (search rules) (search rules))
