-- A part of the turns of a loop over cells of their own.
use Rattle.std.specs.Prelude.{ℕ, ◌+◌, ◌*◌, ◌<◌, ◌≡◌, List, length, slice_index}
use Rattle.lower_machine.specs.Machine.{Machine, machine}
use Rattle.lane_rows.specs.Lanes.{stepped}
use Rattle.law_lanes.specs.Lanes.{turns}
use Rattle.law_parts.specs.Parts.{KeepApart}
use Rattle.team_parts.specs.declared.shared.Shared.{Shared}
use Rattle.team_parts.specs.Turned.{ops_of, variable_of}
use Rattle.team_parts.specs.Window.{bound_of}

-- what all turns leave, one after another, over so many cells
abbrev pub left_by : Shared → List ℕ → Machine
left_by s cells = turns (variable_of s.turned) (stepped s.first s.by) (ops_of s.turned) s.count (machine s.registers.now cells)

-- the turns have their cells to themselves, and what is lent and a part's own cells are these cells
pub record IsPlaced (s : Shared) (from count : ℕ) (mine cells : List ℕ) : Type 0 where
  pub apart : KeepApart (variable_of s.turned) (stepped s.first s.by) (ops_of s.turned) s.count (machine s.registers.now cells) (bound_of s.window)
  pub long : length cells ≡ s.window.low + s.window.width * s.count + length s.behind.now
  pub low : length s.before.now ≡ s.window.low
  pub before : (k : ℕ) → k < s.window.low → slice_index s.before.now k ≡ slice_index cells k
  pub own : (k : ℕ) → k < s.window.width * count → slice_index mine k ≡ slice_index cells (s.window.low + s.window.width * from + k)
  pub behind : (k : ℕ) → slice_index s.behind.now k ≡ slice_index cells (s.window.low + s.window.width * s.count + k)

-- a part's own cells are what all turns leave there, and so are the registers behind the last part
pub record LeavesOwn (s : Shared) (from count : ℕ) (mine rs cells : List ℕ) : Type 0 where
  pub own : (k : ℕ) → k < s.window.width * count → slice_index mine k ≡ slice_index (left_by s cells).cells (s.window.low + s.window.width * from + k)
  pub registers : 0 < count → from + count ≡ s.count → rs ≡ (left_by s cells).registers

-- so many turns from one on are done over their own cells
pub record IsPartDone (s : Shared) (from count : ℕ) (before after registers : List ℕ) : Type 0 where
  pub long : length after ≡ length before
  pub does : (cells : List ℕ) → IsPlaced s from count before cells → LeavesOwn s from count after registers cells
