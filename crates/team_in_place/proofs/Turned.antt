-- All turns of a loop that is run in place are the loop.
use Rattle.std.proofs.Common.{◌≡◌, ℕ, ◌^◌, ◌<◌, List, length, sym, ap, ◌∙◌, subst, refl}
use Rattle.std.specs.Prelude.{slice_set}
use Rattle.semantics.specs.Meaning.Runs.{greatest_trip_count}
use Rattle.lower_machine.specs.Machine.{Running, machine, running}
use Rattle.lower_machine.specs.declared.term.Register.{Register}
use Rattle.lower_op.specs.declared.op.Op.{Op}
use Rattle.lower_op.specs.Steps.{steps}
use Rattle.lower_op.specs.Stretches.{written}
use Rattle.law_lanes.specs.Lanes.{turns}
use Rattle.law_unrolled.specs.Unrolled.{Nested, flat}
use Rattle.lane_rows.specs.Lanes.{stepped}
use Rattle.lane_body.specs.Counted.{counts, goes_on, moved}
use Rattle.lane_body.specs.declared.counted.Course.{Course}
use Rattle.lane_body.specs.declared.counted.Course.TheVariants.{Up}
use Rattle.lane_body.specs.declared.counted.Counted.{Counted}
use Rattle.lower_block.specs.declared.tree.Compiled.{Compiled}
use Rattle.lower_block.specs.Block.{runs}
use Rattle.lower_block.specs.Emission.{EndsBeside}
use Rattle.lower_runner.proofs.Course.{ends_beside}
use Rattle.team_parts.specs.Turned.{nested_in, ops_of, variable_of}
use Rattle.team_parts.proofs.Windows.{variable_there}
use Rattle.team_in_place.specs.Counting.{counted, AreEntered, IsPlannedFor}
use Rattle.team_in_place.specs.Nesting.{IsNestPlannedFor, nested_loop, nested_with, turned_by}
use Rattle.team_in_place.specs.Scanning.{IsScanPlannedFor}
use Rattle.team_in_place.specs.Spinning.{AreItsTurns}
use Rattle.team_in_place.specs.declared.nest_planning.NestPlan.{NestPlan}
use Rattle.team_in_place.specs.declared.nesting.Nesting.{Nesting}
use Rattle.team_in_place.specs.declared.planning.Plan.{Plan}
use Rattle.team_in_place.specs.declared.scan_planning.ScanPlan.{ScanPlan}
use Rattle.team_in_place.proofs.NestTurns.{nests_law}
use Rattle.team_in_place.proofs.Spins.{AdvancesAlike, counted_law, spins_law}

module _ (c : Counted) (registers cells : List ℕ) (n : ℕ) (p : Plan) (planned : IsPlannedFor c registers n p) where
  abbrev value : ℕ → ℕ
  value = stepped p.rise.first p.rise.by

  its_turns : AreItsTurns c.variable c.end c.by c.ops.items registers p.rise.first p.rise.by p.rise.count p.rise.next
  its_turns =
      let rise = planned.turns.rise in
      record {
        steady = c.steady planned.lanes;
        there = variable_there c.limit c.variable.at c.ops.items registers (c.laned planned.lanes) planned.inside;
        begins = sym rise.first;
        by_step = sym rise.by;
        small = subst (λ n. n < 2 ^ 64) (sym rise.first) (planned.words c.variable.at);
        step_small = subst (λ n. n < 2 ^ 64) (sym rise.by) (planned.words c.by.at);
        end_small = planned.words c.end.at;
        below = rise.below;
        goes_to = rise.next;
        ends = rise.ends;
        few = planned.apart.few;
      }

  pub all_turns : (rs cells' : List ℕ) → machine rs cells' ≡ turns (variable_of p.turned) value (ops_of p.turned) p.rise.count (machine registers cells)
      → (text : List ℕ) → counted c (running (machine registers cells) text) ≡ running (machine (slice_set rs c.variable.at p.rise.next) cells') text
  all_turns rs cells' ran text =
      let did : machine rs cells' ≡ turns c.variable.at value c.ops.items p.rise.count (machine registers cells)
      = ran
      ∙ ap (λ (ops : List Op). turns (variable_of p.turned) value ops p.rise.count (machine registers cells)) planned.ops
      ∙ ap (λ (v : ℕ). turns v value c.ops.items p.rise.count (machine registers cells)) planned.variable in
      ap (λ (u : Course). counts greatest_trip_count u c.ops.items c.variable c.end c.by (running (machine registers cells) text)) planned.turns.up
      ∙ counted_law c.ops.items c.variable c.end c.by registers cells p.rise.first p.rise.by p.rise.count p.rise.next its_turns rs cells' did text

-- so are those of a prefix sum
module _ (c : Counted) (registers cells : List ℕ) (n : ℕ) (p : ScanPlan) (planned : IsScanPlannedFor c registers n p) where
  its_sums : AreItsTurns c.variable c.end c.by c.ops.items registers p.rise.first p.rise.by p.rise.count p.rise.next
  its_sums =
      let rise = planned.turns.rise in
      let l = p.scanned.laned in
      record {
        steady = planned.steady;
        there = subst (λ (v : Register). v.at < length registers) planned.variable (variable_there l.limit l.variable.at l.ops.now registers l.laned planned.apart.wide);
        begins = sym rise.first;
        by_step = sym rise.by;
        small = subst (λ n. n < 2 ^ 64) (sym rise.first) (planned.words c.variable.at);
        step_small = subst (λ n. n < 2 ^ 64) (sym rise.by) (planned.words c.by.at);
        end_small = planned.words c.end.at;
        below = rise.below;
        goes_to = rise.next;
        ends = rise.ends;
        few = planned.apart.few;
      }

  pub all_sums : (rs cells' : List ℕ) → machine rs cells' ≡ turns p.scanned.laned.variable.at (stepped p.rise.first p.rise.by) p.scanned.ops.now p.rise.count (machine registers cells)
      → (text : List ℕ) → counted c (running (machine registers cells) text) ≡ running (machine (slice_set rs c.variable.at p.rise.next) cells') text
  all_sums rs cells' ran text =
      let did : machine rs cells' ≡ turns c.variable.at (stepped p.rise.first p.rise.by) c.ops.items p.rise.count (machine registers cells)
      = ran
      ∙ ap (λ (ops : List Op). turns p.scanned.laned.variable.at (stepped p.rise.first p.rise.by) ops p.rise.count (machine registers cells)) planned.ops
      ∙ ap (λ (v : Register). turns v.at (stepped p.rise.first p.rise.by) c.ops.items p.rise.count (machine registers cells)) planned.variable in
      ap (λ (u : Course). counts greatest_trip_count u c.ops.items c.variable c.end c.by (running (machine registers cells) text)) planned.turns.up
      ∙ counted_law c.ops.items c.variable c.end c.by registers cells p.rise.first p.rise.by p.rise.count p.rise.next its_sums rs cells' did text

module _ (x : Nesting) (registers cells : List ℕ) (n : ℕ) (p : NestPlan) (planned : IsNestPlannedFor x registers n p) where
  -- a turn by the numbers of its inner loop
  abbrev turn : Nested
  turn = nested_with x (stepped p.nest.first p.nest.by) p.nest.count p.nest.next

  alike : AdvancesAlike (turned_by x) (flat turn) x.variable x.by registers
  alike rs cells text kept =
      ap (λ (u : Course). after (counts greatest_trip_count u x.counted.now.ops.items x.counted.now.variable x.counted.now.end x.counted.now.by (running (steps x.front.now (machine rs cells)) text))) planned.up
      ∙ nests_law x.variable x.by x.counted.now.end x.counted.now.by turn registers p.nest.first p.nest.by refl planned.inner rs cells text kept
    where
      after : Running → Running
      after q = running (moved Up x.variable x.by (steps x.back.now q.machine)) q.text

  pub all_nested : (rs cells' : List ℕ) → machine rs cells' ≡ turns p.nest.variable.at (stepped p.rise.first p.rise.by) (flat (nested_in p.nest)) p.rise.count (machine registers cells)
      → (text : List ℕ) → nested_loop x (running (machine registers cells) text) ≡ running (machine (slice_set rs x.variable.at p.rise.next) cells') text
  all_nested rs cells' ran text =
      let did : machine rs cells' ≡ turns x.variable.at (stepped p.rise.first p.rise.by) (flat turn) p.rise.count (machine registers cells)
      = ran
      ∙ ap (λ (s : Nested). turns p.nest.variable.at (stepped p.rise.first p.rise.by) (flat s) p.rise.count (machine registers cells)) planned.is
      ∙ ap (λ (v : Register). turns v.at (stepped p.rise.first p.rise.by) (flat turn) p.rise.count (machine registers cells)) planned.variable in
      spins_law (turned_by x) (goes_on Up x.variable x.end) (flat turn) x.variable x.end x.by registers cells p.rise.first p.rise.by p.rise.count p.rise.next planned.turns (λ m. refl) alike rs cells' did text

-- so the code that the loop is compiled to has run
pub ran_in_place : (compiled : Compiled) (loop : Running → Running) (ops : List Op) (registers cells own new cells' : List ℕ) (entered : AreEntered compiled ops registers cells own)
    → ((r : Running) → runs compiled.block r ≡ loop (running (steps ops r.machine) r.text))
    → ((text : List ℕ) → loop (running (machine own cells) text) ≡ running (machine new cells') text)
    → (text : List ℕ) → EndsBeside compiled (running (machine entered.wide cells) text) (running (machine new cells') text)
ran_in_place compiled loop ops registers cells own new cells' entered is turned text =
    let began = running (machine (written compiled.first_constant compiled.constants.items entered.wide) cells) text in
    ends_beside compiled (running (machine entered.wide cells) text) (running (machine new cells') text)
    (sym (is began ∙ ap (λ m. loop (running m text)) (sym entered.does) ∙ turned text))
