-- The turns over one register more are the loop.
use Rattle.std.proofs.Common.{◌≡◌, ◌+◌, ◌++◌, length, take, drop, ◌∙◌, sym, ap, arith, rules}
use Rattle.std.specs.Prelude.{slice_index, slice_set}
use Rattle.store.specs.Flat.{values_of}
use Rattle.lower_machine.specs.Machine.{machine, running}
use Rattle.lane_rows.specs.Lanes.{stepped}
use Rattle.lower_run.proofs.Restored.{put_back}
use Rattle.team_in_place.proofs.Promoted.{one_more, promoted_turns}
use Rattle.team_in_place.proofs.promoting.run_promoted.Goals as goal

pub put_last-requires : goal.put_last-requires
put_last-requires g c =
    let t = c.in-Some.rise in
    let p = c.in-Some-2.promotion in
    let cells = values_of c.args.store.now in
    let end = c.in-Some-ran.end.items in
    let e : length end ≡ length c.args.registers.now + 1
    = one_more c.args.summing.now.variable.at (stepped t.first t.by) p.ops.items t.count (slice_index cells p.place) c.args.registers.now c.in_ok-own.own.items cells end (values_of c.run_scanned_turns.new.store) (search rules) (search rules) in
    omega (arith, e)

pub returns-clause-does : goal.returns-clause-does
returns-clause-does g c text =
    let loop = c.args.summing.now in
    let t = c.in-Some.rise in
    let p = c.in-Some-2.promotion in
    let cells = values_of c.args.store.now in
    let end = c.in-Some-ran.end.items in
    let rs = c.put_last.new.registers.items in
    let new = c.put.new.registers in
    let left = values_of c.put_last.new.store in
    let is : new ≡ slice_set rs loop.variable.at t.next = search rules in
    let back : take c.put_last.new.registers.len (new ++ drop (length new) rs) ≡ new = put_back c.put_last.new.registers.len new rs (search rules) (search rules) in
    promoted_turns loop c.args.registers.now cells t p c.in-Some.ensures (search rules) c.in_ok-own.own.items end (values_of c.run_scanned_turns.new.store) rs left (search rules) (search rules) c.put_last.ensures.others c.put_last.ensures.cell text
    ∙ ap (λ r. running (machine r left) text) (sym (back ∙ is))
