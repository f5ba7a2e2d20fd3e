-- Instructions that write no cell are run once, and leave the cells.
use Rattle.std.proofs.Common.{◌≡◌, Bool, true, false, refl, rules}
use Rattle.std.specs.Prelude.{slice_index}
use Rattle.lower_runner.specs.Turning.{ConstantsStand}
use Rattle.team_in_place.proofs.Front.{cells_left, ran_front, stands_behind}
use Rattle.team_in_place.proofs.running.run_front.Goals as goal

pub returns-clause-does : goal.returns-clause-does
returns-clause-does c ran =
    let front = c.args.front in
    let old = c.args.registers.now in
    let cells = c.args.cells.now.numbers.items in
    let first = c.register_value-first.result in
    let is : first ≡ slice_index old c.args.variable.at = search rules in
    let stand : ConstantsStand front.compiled.now old = search rules in
    ran_front front.compiled.now front.ops.now c.args.variable.at first c.requires.leaves c.requires.quiet old cells is c.register_value-first.type_inv stand c.run_each_turn.new.registers c.run_each_turn.new.cells.numbers.items (c.run_each_turn.ensures.done ran)

pub returns-clause-stand : goal.returns-clause-stand
returns-clause-stand c ran =
    let front = c.args.front in
    let old = c.args.registers.now in
    let cells = c.args.cells.now.numbers.items in
    let first = c.register_value-first.result in
    let is : first ≡ slice_index old c.args.variable.at = search rules in
    let stand : ConstantsStand front.compiled.now old = search rules in
    stands_behind front.compiled.now front.ops.now c.args.variable.at first c.requires.leaves c.requires.quiet old cells is c.register_value-first.type_inv stand c.run_each_turn.new.registers c.run_each_turn.new.cells.numbers.items (c.run_each_turn.ensures.done ran)

pub returns-clause-kept : goal.returns-clause-kept
returns-clause-kept c = go c.run_each_turn.result refl
  where
    go : (b : Bool) → c.run_each_turn.result ≡ b → c.run_each_turn.new.cells.numbers.items ≡ c.args.cells.now.numbers.items
    go true ran =
        let front = c.args.front in
        let old = c.args.registers.now in
        let first = c.register_value-first.result in
        let is : first ≡ slice_index old c.args.variable.at = search rules in
        let stand : ConstantsStand front.compiled.now old = search rules in
        cells_left front.compiled.now front.ops.now c.args.variable.at first c.requires.leaves c.requires.quiet old c.args.cells.now.numbers.items is c.register_value-first.type_inv stand c.run_each_turn.new.registers c.run_each_turn.new.cells.numbers.items (c.run_each_turn.ensures.done ran)
    go false not = (c.run_each_turn.ensures.left not).1
