-- What is seen of a loop whose turns have a counted loop in them, before its cells are looked at.
use Rattle.std.specs.Prelude.{ℕ, ◌≡◌, ◌<◌, ◌≤◌, ◌^◌, ◌==◌, false, List, length, slice_index}
use Rattle.lower_machine.specs.Machine.{machine}
use Rattle.lower_op.specs.Steps.{steps}
use Rattle.law_lanes.specs.Reading.{is_written}
use Rattle.law_unrolled.specs.Unrolled.{Nested, flat}
use Rattle.lane_rows.specs.Lanes.{stepped}
use Rattle.lane_body.specs.declared.counted.Course.TheVariants.{Up}
use Rattle.team_parts.specs.declared.turned.Nest.{Nest}
use Rattle.team_parts.specs.Turned.{nested_in}
use Rattle.team_in_place.specs.Nesting.{nested_with}
use Rattle.team_in_place.specs.Spinning.{AreItsTurns, AreKept, IsInner}
use Rattle.team_in_place.specs.declared.nesting.Nesting.{Nesting}
use Rattle.team_in_place.specs.declared.planning.Rise.{Rise}

-- no instruction of a turn writes a register, whatever the numbers of the inner loop are
abbrev pub IsUnwritten : Nesting → ℕ → Type 0
IsUnwritten x r = (value : ℕ → ℕ) (count next : ℕ) → is_written (flat (nested_with x value count next)) r ≡ false

-- and it is not the loop's variable
pub record IsLeft (x : Nesting) (r : ℕ) : Type 0 where
  pub unwritten : IsUnwritten x r
  pub other : (x.variable.at == r) ≡ false

-- in each turn the inner loop begins with a number, whatever its other numbers are
abbrev pub BeginsWith : Nesting → List ℕ → ℕ → Type 0
BeginsWith x registers first =
    (value : ℕ → ℕ) (count next : ℕ) (rs cells : List ℕ) → AreKept x.variable.at (flat (nested_with x value count next)) registers rs
    → slice_index (steps x.front.now (machine rs cells)).registers x.counted.now.variable.at ≡ first

-- a turn by the turns of its inner loop
abbrev pub nested_over : Nesting → Rise → Nested
nested_over x t = nested_with x (stepped t.first t.by) t.count t.next

-- these are the turns of the inner loop, in each turn
pub record AreInnerTurns (x : Nesting) (registers : List ℕ) (t : Rise) : Type 0 where
  pub inner : IsInner x.variable x.counted.now.end x.counted.now.by (nested_over x t) registers t.first t.by
  pub some : 0 < t.count
  pub few : t.count ≤ 16384

-- these are the loop's own turns, whatever the numbers of the inner loop are
pub record AreOuterTurns (x : Nesting) (registers : List ℕ) (t : Rise) : Type 0 where
  pub turns : (value : ℕ → ℕ) (count next : ℕ) → AreItsTurns x.variable x.end x.by (flat (nested_with x value count next)) registers t.first t.by t.count t.next
  pub some : 0 < t.count
  pub few : t.count ≤ 2 ^ 24

-- a turn and the turns of a loop where it stands so in registers
pub record IsBegun (x : Nesting) (registers : List ℕ) (nest : Nest) (t : Rise) : Type 0 where
  pub variable : nest.variable ≡ x.variable
  pub is : nested_in nest ≡ nested_with x (stepped nest.first nest.by) nest.count nest.next
  pub up : x.counted.now.course ≡ Up
  pub wide : nest.limit ≤ length registers
  pub turns : AreItsTurns x.variable x.end x.by (flat (nested_with x (stepped nest.first nest.by) nest.count nest.next)) registers t.first t.by t.count t.next
  pub inner : IsInner x.variable x.counted.now.end x.counted.now.by (nested_with x (stepped nest.first nest.by) nest.count nest.next) registers nest.first nest.by
  pub some : 0 < t.count
  pub few : t.count ≤ 2 ^ 24
