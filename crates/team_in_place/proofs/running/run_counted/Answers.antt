-- All turns of the loop, and the variable behind them.
use Rattle.std.proofs.Common.{◌≡◌, ◌++◌, length, take, drop, ◌∙◌, sym, ap, rules}
use Rattle.std.specs.Prelude.{slice_set}
use Rattle.store.specs.Flat.{values_of}
use Rattle.lower_machine.specs.Machine.{machine, running}
use Rattle.lower_run.proofs.Restored.{put_back}
use Rattle.team_in_place.proofs.Turned.{all_turns}
use Rattle.team_in_place.proofs.running.run_counted.Goals as goal

pub returns-clause-does : goal.returns-clause-does
returns-clause-does g c text =
    let loop = c.args.rising.now in
    let plan = c.in-Some.plan in
    let rs = c.in_ok-own.own.items in
    let new = c.put.new.registers in
    let cells = values_of c.run_over_store.new.store in
    let is : new ≡ slice_set rs loop.variable.at plan.rise.next = search rules in
    let back : take c.in_ok-own.own.len (new ++ drop (length new) rs) ≡ new = put_back c.in_ok-own.own.len new rs (search rules) (search rules) in
    all_turns loop c.args.registers.now (values_of c.args.store.now) _ plan c.in-Some.ensures rs cells c.in_ok-own.ensures.does text
    ∙ ap (λ r. running (machine r cells) text) (sym (back ∙ is))
