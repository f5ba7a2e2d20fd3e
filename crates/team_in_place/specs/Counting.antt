-- A counted loop whose turns have their cells to themselves.
use Rattle.std.specs.Prelude.{ℕ, ◌+◌, ◌*◌, ◌<◌, ◌≤◌, ◌^◌, ◌≡◌, List, length, slice_index}
use Rattle.semantics.specs.Meaning.Runs.{greatest_trip_count}
use Rattle.lower_machine.specs.Machine.{Running, machine}
use Rattle.lower_op.specs.declared.op.Op.{Op}
use Rattle.lower_op.specs.Steps.{steps}
use Rattle.lower_op.specs.Stretches.{written}
use Rattle.lower_block.specs.declared.tree.Compiled.{Compiled}
use Rattle.lower_runner.specs.Turning.{ConstantsStand}
use Rattle.lane_body.specs.Counted.{counts}
use Rattle.lane_body.specs.declared.counted.Counted.{Counted}
use Rattle.lane_body.specs.declared.counted.Course.TheVariants.{Up}
use Rattle.lane_rows.specs.Lanes.{stepped}
use Rattle.law_parts.specs.Parts.{KeepApart}
use Rattle.team_parts.specs.Turned.{limit_of, ops_of, variable_of}
use Rattle.team_parts.specs.Window.{bound_of}
use Rattle.team_in_place.specs.declared.planning.Plan.{Plan}
use Rattle.team_in_place.specs.declared.planning.Rise.{Rise}

-- how a counted loop leaves a machine that runs
abbrev pub counted : Counted → Running → Running
counted c r = counts greatest_trip_count c.course c.ops.items c.variable c.end c.by r

-- the turns of a loop whose variable rises from a number by another one to an end: it is below the end in each of them, and not behind the last one
pub record IsRise (from end step : ℕ) (t : Rise) : Type 0 where
  pub first : t.first ≡ from
  pub by : t.by ≡ step
  pub below : (k : ℕ) → k < t.count → t.first + k * t.by < end
  pub next : t.next ≡ stepped t.first t.by t.count
  pub ends : end ≤ t.next

-- these are its turns where it stands so in registers
pub record AreTurnsOf (c : Counted) (registers : List ℕ) (t : Rise) : Type 0 where
  pub up : c.course ≡ Up
  pub rise : IsRise (slice_index registers c.variable.at) (slice_index registers c.end.at) (slice_index registers c.by.at) t

-- each turn has cells to itself, whatever these hold
pub record IsApart (p : Plan) (registers : List ℕ) : Type 0 where
  pub some : 0 < p.rise.count
  pub few : p.rise.count ≤ 2 ^ 24
  pub room : p.window.low + p.window.width * p.rise.count < 2 ^ 62
  pub apart : (all : List ℕ) → KeepApart (variable_of p.turned) (stepped p.rise.first p.rise.by) (ops_of p.turned) p.rise.count (machine registers all) (bound_of p.window)

-- its body and its turns, and the cells of each turn, which are among so many cells
pub record IsPlannedFor (c : Counted) (registers : List ℕ) (cells : ℕ) (p : Plan) : Type 0 where
  pub ops : ops_of p.turned ≡ c.ops.items
  pub variable : variable_of p.turned ≡ c.variable.at
  pub wide : limit_of p.turned ≤ length registers
  pub inside : c.limit ≤ length registers
  pub lanes : 0 < c.limit
  pub turns : AreTurnsOf c registers p.rise
  pub words : (r : ℕ) → slice_index registers r < 2 ^ 64
  pub within : p.window.low + p.window.width * p.rise.count ≤ cells
  pub apart : IsApart p registers

-- as the instructions in front leave them, these are the registers that the loop is entered with: at first they hold what others do, and there are enough of them
pub record AreEntered (compiled : Compiled) (front : List Op) (registers cells own : List ℕ) : Type 0 where
  pub wide : List ℕ
  pub same : (x : ℕ) → slice_index wide x ≡ slice_index registers x
  pub kept : length registers ≤ length wide
  pub room : compiled.registers ≤ length wide
  pub does : machine own cells ≡ steps front (machine (written compiled.first_constant compiled.constants.items wide) cells)
  pub stand : ConstantsStand compiled own
