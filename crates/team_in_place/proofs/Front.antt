-- The instructions in front of a loop, which write no cell.
use Rattle.std.proofs.Common.{◌≡◌, ℕ, ◌+◌, ◌^◌, ◌<◌, false, List, sym, ap, ◌∙◌, arith}
use Rattle.std.specs.Prelude.{slice_index}
use Rattle.std.specs.List.{list_any}
use Rattle.lower_machine.specs.Machine.{Machine, machine}
use Rattle.lower_op.specs.declared.op.Op.{Op}
use Rattle.lower_op.specs.Steps.{put, steps}
use Rattle.law_lanes.specs.Reading.{saves}
use Rattle.lane_rows.specs.Lanes.{stepped}
use Rattle.lane_work.proofs.Beside.{set_itself}
use Rattle.lower_block.specs.declared.tree.Compiled.{Compiled}
use Rattle.lower_lanes.proofs.Behind.{all_quiet}
use Rattle.lower_runner.specs.Turning.{turned_often, ConstantsStand, LeavesConstants}
use Rattle.lower_runner.proofs.Again.{kept, same_turns}

module _ (compiled : Compiled) (ops : List Op) (variable first : ℕ) (leaves : LeavesConstants compiled ops variable) (quiet : list_any saves ops ≡ false)
    (rs cells : List ℕ) (is : first ≡ slice_index rs variable) (small : first < 2 ^ 64) (stand : ConstantsStand compiled rs) where
  -- the variable takes the number that it has
  entered_again : put variable (stepped first 0 0) (machine rs cells) ≡ machine rs cells
  entered_again =
      let none : stepped first 0 0 ≡ first = omega (arith, small) in
      ap (λ n. put variable n (machine rs cells)) (none ∙ is) ∙ ap (λ r. machine r cells) (set_itself rs variable)

  ran_once : turned_often compiled ops variable (stepped first 0) 1 (machine rs cells) ≡ steps ops (machine rs cells)
  ran_once = same_turns compiled ops variable leaves (stepped first 0) (machine rs cells) stand 1 ∙ ap (steps ops) entered_again

  pub ran_front : (rs' cells' : List ℕ) → machine rs' cells' ≡ turned_often compiled ops variable (stepped first 0) 1 (machine rs cells) → machine rs' cells ≡ steps ops (machine rs cells)
  ran_front rs' cells' e =
      ap (λ (m : Machine). machine m.registers cells) (e ∙ ran_once) ∙ sym (all_quiet ops rs cells quiet)

  pub stands_behind : (rs' cells' : List ℕ) → machine rs' cells' ≡ turned_often compiled ops variable (stepped first 0) 1 (machine rs cells) → ConstantsStand compiled rs'
  stands_behind rs' cells' e i lt =
      ap (λ (m : Machine). slice_index m.registers (compiled.first_constant + i)) (e ∙ same_turns compiled ops variable leaves (stepped first 0) (machine rs cells) stand 1)
      ∙ kept compiled ops variable leaves (stepped first 0) (machine rs cells) stand 1 (compiled.first_constant + i) (leaves.spared i lt) (leaves.other i lt)
      ∙ stand i lt

  pub cells_left : (rs' cells' : List ℕ) → machine rs' cells' ≡ turned_often compiled ops variable (stepped first 0) 1 (machine rs cells) → cells' ≡ cells
  cells_left rs' cells' e = ap (λ (m : Machine). m.cells) (e ∙ ran_once ∙ all_quiet ops rs cells quiet)
