-- A loop whose turns have a counted loop in them, as it stands in compiled code.
use Rattle.std.specs.Prelude.{ℕ, ◌+◌, ◌*◌, ◌^◌, ◌≡◌, ◌<◌, ◌≤◌, List, length}
use Rattle.semantics.specs.Meaning.Runs.{greatest_trip_count}
use Rattle.lower_machine.specs.Machine.{Running, machine, running, spins}
use Rattle.lower_op.specs.Steps.{steps}
use Rattle.law_parts.specs.Parts.{KeepApart}
use Rattle.law_unrolled.specs.Unrolled.{Nested, flat}
use Rattle.lane_rows.specs.Lanes.{stepped}
use Rattle.lane_body.specs.Counted.{goes_on, moved}
use Rattle.lane_body.specs.declared.counted.Course.TheVariants.{Up}
use Rattle.team_parts.specs.Turned.{nested_in}
use Rattle.team_parts.specs.Window.{bound_of}
use Rattle.team_in_place.specs.Counting.{counted}
use Rattle.team_in_place.specs.Spinning.{AreItsTurns, IsInner}
use Rattle.team_in_place.specs.declared.looping.Looped.{Looped}
use Rattle.team_in_place.specs.declared.looping.Looped.TheVariants.{Counts, Nests}
use Rattle.team_in_place.specs.declared.nesting.Nesting.{Nesting}
use Rattle.team_in_place.specs.declared.nest_planning.NestPlan.{NestPlan}

-- the inner loop, behind the instructions in front of it
abbrev pub inner_of : Nesting → Running → Running
inner_of x r = counted x.counted.now (running (steps x.front.now r.machine) r.text)

-- what a turn does: that, the instructions behind, and then the variable goes on by a step
abbrev pub turned_by : Nesting → Running → Running
turned_by x r = running (moved Up x.variable x.by (steps x.back.now (inner_of x r).machine)) (inner_of x r).text

-- the loop
abbrev pub nested_loop : Nesting → Running → Running
nested_loop x r = spins greatest_trip_count (goes_on Up x.variable x.end) (turned_by x) r

-- a loop that may be run in place
abbrev pub loops : Looped → Running → Running
loops (Counts c) r = counted c.now r
loops (Nests x) r = nested_loop x r

-- a turn by the numbers of its inner loop
abbrev pub nested_with : Nesting → (ℕ → ℕ) → ℕ → ℕ → Nested
nested_with x value count next = record {
  front = x.front.now;
  inner = x.counted.now.variable;
  value = value;
  ops = x.counted.now.ops.items;
  count = count;
  next = next;
  back = x.back.now;
}

-- its turns where it stands so in registers, the turns of its inner loop, and the cells of each turn, which are among so many cells
pub record IsNestPlannedFor (x : Nesting) (registers : List ℕ) (cells : ℕ) (p : NestPlan) : Type 0 where
  pub variable : p.nest.variable ≡ x.variable
  pub is : nested_in p.nest ≡ nested_with x (stepped p.nest.first p.nest.by) p.nest.count p.nest.next
  pub up : x.counted.now.course ≡ Up
  pub wide : p.nest.limit ≤ length registers
  pub turns : AreItsTurns x.variable x.end x.by (flat (nested_with x (stepped p.nest.first p.nest.by) p.nest.count p.nest.next)) registers p.rise.first p.rise.by p.rise.count p.rise.next
  pub inner : IsInner x.variable x.counted.now.end x.counted.now.by (nested_with x (stepped p.nest.first p.nest.by) p.nest.count p.nest.next) registers p.nest.first p.nest.by
  pub some : 0 < p.rise.count
  pub few : p.rise.count ≤ 2 ^ 24
  pub room : p.window.low + p.window.width * p.rise.count < 2 ^ 62
  pub within : p.window.low + p.window.width * p.rise.count ≤ cells
  pub apart : (all : List ℕ) → KeepApart p.nest.variable.at (stepped p.rise.first p.rise.by) (flat (nested_in p.nest)) p.rise.count (machine registers all) (bound_of p.window)
