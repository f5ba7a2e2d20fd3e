-- All turns of the loop, and the variable behind them.
use Rattle.std.proofs.Common.{◌≡◌, ℕ, List, ◌++◌, length, take, drop, ◌∙◌, sym, ap, subst, rules}
use Rattle.std.specs.Prelude.{slice_set}
use Rattle.store.specs.Flat.{values_of}
use Rattle.lower_machine.specs.Machine.{machine, running}
use Rattle.lower_op.specs.declared.op.Op.{Op}
use Rattle.lower_run.proofs.Restored.{put_back}
use Rattle.law_lanes.specs.Lanes.{turns}
use Rattle.law_parts.specs.Parts.{KeepApart}
use Rattle.law_unrolled.specs.Unrolled.{flat}
use Rattle.lane_rows.specs.Lanes.{stepped}
use Rattle.team_parts.specs.Turned.{nested_in, ops_of}
use Rattle.team_parts.specs.Window.{bound_of}
use Rattle.team_in_place.specs.Nesting.{IsNestPlannedFor}
use Rattle.team_in_place.proofs.Turned.{all_nested}
use Rattle.team_in_place.proofs.running.run_nested.Goals as goal

-- The cells that each turn has to itself are those of the plan.
pub run_over_store-requires-clause-apart : goal.run_over_store-requires-clause-apart
run_over_store-requires-clause-apart g c κs within =
    let registers = c.args.registers.now in
    let plan = c.in-Some.nested in
    let value = stepped plan.rise.first plan.rise.by in
    let bound = bound_of plan.window in
    let planned : IsNestPlannedFor c.args.nesting registers (length (values_of c.args.store.now)) plan = search rules in
    record {
      some = planned.some;
      few = planned.few;
      room = planned.room;
      apart = λ all.
          subst (λ (v : ℕ). KeepApart v value (ops_of c.turn.result) plan.rise.count (machine registers all) bound) (sym c.turn.ensures.variable)
          (subst (λ (ops : List Op). KeepApart plan.nest.variable.at value ops plan.rise.count (machine registers all) bound) (sym c.turn.ensures.ops) (planned.apart all));
    }

pub returns-clause-does : goal.returns-clause-does
returns-clause-does g c text =
    let x = c.args.nesting in
    let registers = c.args.registers.now in
    let ks = c.args.store.now in
    let plan = c.in-Some.nested in
    let turned = c.turn.result in
    let rs = c.in_ok-own.own.items in
    let new = c.put.new.registers in
    let cells = values_of c.run_over_store.new.store in
    let value = stepped plan.rise.first plan.rise.by in
    let began = machine registers (values_of ks) in
    let planned : IsNestPlannedFor x registers (length (values_of ks)) plan = search rules in
    let is : new ≡ slice_set rs x.variable.at plan.rise.next = search rules in
    let back : take c.in_ok-own.own.len (new ++ drop (length new) rs) ≡ new = put_back c.in_ok-own.own.len new rs (search rules) (search rules) in
    let did : machine rs cells ≡ turns plan.nest.variable.at value (flat (nested_in plan.nest)) plan.rise.count began =
    c.in_ok-own.ensures.does
    ∙ ap (λ (v : ℕ). turns v value (ops_of turned) plan.rise.count began) c.turn.ensures.variable
    ∙ ap (λ (ops : List Op). turns plan.nest.variable.at value ops plan.rise.count began) c.turn.ensures.ops in
    all_nested x registers (values_of ks) (length (values_of ks)) plan planned rs cells did text
    ∙ ap (λ r. running (machine r cells) text) (sym (back ∙ is))
