-- The cells that each turn has to itself, by the strides of the places that turns touch.
use Rattle.std.specs.Prelude.{ℕ, ◌+◌, ◌*◌, ◌<◌, ◌≤◌, ◌^◌, ◌≡◌, ◌⊎◌, true, List}
use Rattle.lower_op.specs.declared.op.Op.{Op}
use Rattle.lane_part.specs.declared.place.Stride.{Stride}
use Rattle.lane_part.specs.Parts.{part_of, work_loads, work_saves}
use Rattle.lane_part.specs.Places.{places_of, sources}
use Rattle.team_parts.specs.declared.window.Window.{Window}

-- where the own places of a turn begin, which those of the turn before reach to
abbrev pub bound_of : Window → ℕ → ℕ
bound_of w t = w.low + w.width * t

-- in each turn the place of a stride is the turn's own: it begins among those of the first turn, and goes as far as they do
pub record Keeps (w : Window) (s : Stride) : Type 0 where
  pub step : s.step ≡ w.width
  pub low : w.low ≤ s.start
  pub high : s.start < w.low + w.width

-- in each of so many turns it is in front of all turns' own places, or behind them, and below 2^64
pub record LiesBeside (w : Window) (count : ℕ) (s : Stride) : Type 0 where
  pub start : s.start < 2 ^ 62
  pub step : s.step < 2 ^ 38
  pub aside : (s.start + count * s.step < w.low + s.step) ⊎ (w.low + w.width * count ≤ s.start)

-- the own places of so many turns, which are not many, are below a number of cells, and each turn has some
pub record IsBelow (w : Window) (count cells : ℕ) : Type 0 where
  pub some : 0 < w.width
  pub one : w.low + w.width < 2 ^ 64
  pub few : count ≤ 2 ^ 24
  pub within : w.low + w.width * count ≤ cells
  pub room : w.low + w.width * count < 2 ^ 62

-- what an instruction writes is the turn's own, and what it reads is too, or no turn's
pub record FitsWindow (w : Window) (variable first by count : ℕ) (registers : List ℕ) (op : Op) : Type 0 where
  pub writes : work_saves (part_of op).work ≡ true → Keeps w (places_of variable first by registers (part_of op).form)
  pub reads : work_loads (part_of op).work ≡ true
      → Keeps w (sources (part_of op).work (places_of variable first by registers (part_of op).form)) ⊎ LiesBeside w count (sources (part_of op).work (places_of variable first by registers (part_of op).form))
