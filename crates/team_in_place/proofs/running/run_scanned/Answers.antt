-- All turns of the loop, and the variable behind them.
use Rattle.std.proofs.Common.{◌≡◌, ◌++◌, length, take, drop, ◌∙◌, sym, ap, rules}
use Rattle.std.specs.Prelude.{slice_set}
use Rattle.store.specs.Flat.{values_of}
use Rattle.lower_machine.specs.Machine.{machine, running}
use Rattle.law_lanes.specs.Lanes.{turns}
use Rattle.lane_rows.specs.Lanes.{stepped}
use Rattle.lower_run.proofs.Restored.{put_back}
use Rattle.team_in_place.proofs.Turned.{all_sums}
use Rattle.team_in_place.proofs.running.run_scanned.Goals as goal

pub returns-clause-does : goal.returns-clause-does
returns-clause-does g c text =
    let loop = c.args.summing.now in
    let plan = c.in-Some.plan in
    let rs = c.in-Some-2.own.items in
    let new = c.put.new.registers in
    let cells = values_of c.scan_if_apart.new.store in
    let did : machine rs cells ≡ turns plan.scanned.laned.variable.at (stepped plan.rise.first plan.rise.by) plan.scanned.ops.now plan.rise.count (machine c.args.registers.now (values_of c.args.store.now)) = search rules in
    let is : new ≡ slice_set rs loop.variable.at plan.rise.next = search rules in
    let back : take c.in-Some-2.own.len (new ++ drop (length new) rs) ≡ new = put_back c.in-Some-2.own.len new rs (search rules) (search rules) in
    all_sums loop c.args.registers.now (values_of c.args.store.now) _ plan c.in-Some.ensures rs cells did text
    ∙ ap (λ r. running (machine r cells) text) (sym (back ∙ is))
