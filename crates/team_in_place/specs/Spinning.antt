-- Loops whose variable rises by a step to an end, by their turns.
use Rattle.std.specs.Prelude.{ℕ, ◌+◌, ◌*◌, ◌^◌, ◌≡◌, ◌<◌, ◌≤◌, ◌==◌, false, true, List, length, slice_index}
use Rattle.lower_machine.specs.declared.term.Register.{Register}
use Rattle.lower_machine.specs.Machine.{machine}
use Rattle.lower_op.specs.declared.op.Op.{Op}
use Rattle.lower_op.specs.Steps.{steps}
use Rattle.law_lanes.specs.Reading.{is_written}
use Rattle.lane_rows.specs.Lanes.{stepped}
use Rattle.lane_body.specs.Steady.{is_steady_rise}
use Rattle.law_unrolled.specs.Unrolled.{Nested, flat}

-- so many turns of a loop whose variable rises from a first number by another one: it is below the end in each of them, and not behind the last one
pub record AreItsTurns (variable end by : Register) (ops : List Op) (registers : List ℕ) (first step count next : ℕ) : Type 0 where
  pub steady : is_steady_rise variable.at end.at by.at ops ≡ true
  pub there : variable.at < length registers
  pub begins : slice_index registers variable.at ≡ first
  pub by_step : slice_index registers by.at ≡ step
  pub small : first < 2 ^ 64
  pub step_small : step < 2 ^ 64
  pub end_small : slice_index registers end.at < 2 ^ 64
  pub below : (k : ℕ) → k < count → first + k * step < slice_index registers end.at
  pub goes_to : next ≡ stepped first step count
  pub ends : slice_index registers end.at ≤ next
  pub few : count ≤ 2 ^ 24

-- registers that neither the variable is nor an instruction writes hold what they held
pub record AreKept (variable : ℕ) (ops : List Op) (registers rs : List ℕ) : Type 0 where
  pub count : length rs ≡ length registers
  pub rest : (x : ℕ) → (variable == x) ≡ false → is_written ops x ≡ false → slice_index rs x ≡ slice_index registers x

-- a loop inside another one, in each of whose turns it begins with the same number, and has the same end and step
pub record IsInner (variable end by : Register) (s : Nested) (registers : List ℕ) (first step : ℕ) : Type 0 where
  pub steady : is_steady_rise s.inner.at end.at by.at s.ops ≡ true
  pub there : s.inner.at < length registers
  pub small : first < 2 ^ 64
  pub step_small : step < 2 ^ 64
  pub begins : (rs cells : List ℕ) → AreKept variable.at (flat s) registers rs → slice_index (steps s.front (machine rs cells)).registers s.inner.at ≡ first
  pub end_left : is_written (flat s) end.at ≡ false
  pub end_other : (variable.at == end.at) ≡ false
  pub by_left : is_written (flat s) by.at ≡ false
  pub by_other : (variable.at == by.at) ≡ false
  pub by_step : slice_index registers by.at ≡ step
  pub end_small : slice_index registers end.at < 2 ^ 64
  pub below : (k : ℕ) → k < s.count → first + k * step < slice_index registers end.at
  pub goes_to : s.next ≡ stepped first step s.count
  pub ends : slice_index registers end.at ≤ s.next
  pub few : s.count ≤ 2 ^ 24
