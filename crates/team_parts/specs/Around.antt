-- Turns with a loop in them whose places go by the width of a window.
use Rattle.std.specs.Prelude.{ℕ, ◌<◌, ◌≤◌, ◌≡◌, ◌==◌, false, length, slice_set, Contains}
use Rattle.lower_op.specs.declared.op.Op.{Op}
use Rattle.lane_part.specs.declared.place.Turns.{Turns}
use Rattle.lane_rows.specs.Lanes.{stepped}
use Rattle.law_unrolled.specs.Unrolled.{placed_at}
use Rattle.team_parts.specs.declared.turned.Nest.{Nest}
use Rattle.team_parts.specs.declared.window.Window.{Window}
use Rattle.team_parts.specs.Window.{FitsWindow}

-- the inner turns of a first turn: some and not many, along another variable, over registers in which the outer variable holds its first number
pub record AreInner (outer inner : Turns) : Type 0 where
  pub some : 0 < inner.count
  pub few : inner.count ≤ 16384
  pub apart : (outer.variable == inner.variable) ≡ false
  pub there : outer.variable < length outer.registers.now
  pub begun : inner.registers.now ≡ slice_set outer.registers.now outer.variable outer.first

-- an inner instruction's cells are the turns' own, or no turn's, in each inner turn
pub record FitsInside (w : Window) (outer inner : Turns) (op : Op) : Type 0 where
  pub each : (k : ℕ) → k < inner.count → FitsWindow w outer.variable outer.first outer.by outer.count outer.registers.now (placed_at inner.variable (stepped inner.first inner.by k) op)

-- so are those of all instructions of a turn
pub record NestFits (nest : Nest) (w : Window) (outer inner : Turns) : Type 0 where
  pub front : (op : Op) → Contains nest.front.now op → FitsWindow w outer.variable outer.first outer.by outer.count outer.registers.now op
  pub back : (op : Op) → Contains nest.back.now op → FitsWindow w outer.variable outer.first outer.by outer.count outer.registers.now op
  pub inside : (op : Op) → Contains nest.ops.now op → FitsInside w outer inner op
