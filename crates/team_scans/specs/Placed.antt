-- A part of the turns of a prefix sum over cells of their own.
use Rattle.std.specs.Prelude.{ℕ, ◌+◌, ◌*◌, ◌%◌, ◌^◌, ◌<◌, ◌≡◌, List, length, slice_index}
use Rattle.lower_machine.specs.Machine.{Machine, machine}
use Rattle.lane_rows.specs.Lanes.{stepped}
use Rattle.law_lanes.specs.Lanes.{turns}
use Rattle.law_parts.specs.Parts.{KeepApart}
use Rattle.law_prefix_parts.specs.PrefixParts.{carried}
use Rattle.team_parts.specs.Window.{bound_of}
use Rattle.team_scans.specs.declared.prefixes.Prefixes.{Prefixes}

-- what so many turns leave, one after another, over so many cells
abbrev pub left_by : Prefixes → List ℕ → ℕ → Machine
left_by s cells k = turns s.scanned.laned.variable.at (stepped s.first s.by) s.scanned.ops.now k (machine s.registers.now cells)

-- what the register holds behind them
abbrev pub carried_by : Prefixes → List ℕ → ℕ → ℕ
carried_by s cells k = carried s.scanned.laned.variable.at (stepped s.first s.by) s.scanned.ops.now s.scanned.target.at (machine s.registers.now cells) k

-- the turns have their cells to themselves, and what is lent and a part's own cells are these cells
pub record IsPlaced (s : Prefixes) (from count : ℕ) (mine cells : List ℕ) : Type 0 where
  pub apart : KeepApart s.scanned.laned.variable.at (stepped s.first s.by) s.scanned.laned.ops.now s.count (machine s.registers.now cells) (bound_of s.window)
  pub long : length cells ≡ s.window.low + s.window.width * s.count + length s.behind.now
  pub low : length s.before.now ≡ s.window.low
  pub before : (k : ℕ) → k < s.window.low → slice_index s.before.now k ≡ slice_index cells k
  pub own : (k : ℕ) → k < s.window.width * count → slice_index mine k ≡ slice_index cells (s.window.low + s.window.width * from + k)
  pub behind : (k : ℕ) → slice_index s.behind.now k ≡ slice_index cells (s.window.low + s.window.width * s.count + k)

-- a part's own cells are what all turns leave there, and the registers what the turns up to its last one leave
pub record LeavesOwn (s : Prefixes) (from count : ℕ) (mine rs cells : List ℕ) : Type 0 where
  pub own : (k : ℕ) → k < s.window.width * count → slice_index mine k ≡ slice_index (left_by s cells s.count).cells (s.window.low + s.window.width * from + k)
  pub registers : 0 < count → rs ≡ (left_by s cells (from + count)).registers

-- so many turns from one on have left their own cells as all turns leave them, where a number is what the register holds as they begin, and another one is what it holds behind them
pub record AreCellsDone (s : Prefixes) (start from count : ℕ) (before after : List ℕ) (next : ℕ) : Type 0 where
  pub long : length after ≡ length before
  pub own : (cells : List ℕ) (k : ℕ) → IsPlaced s from count before cells → start ≡ carried_by s cells from → k < s.window.width * count
      → slice_index after k ≡ slice_index (left_by s cells s.count).cells (s.window.low + s.window.width * from + k)
  pub behind : (cells : List ℕ) → IsPlaced s from count before cells → start ≡ carried_by s cells from → next ≡ carried_by s cells (from + count)

-- so many turns from one on are done over their own cells, where a number is what the register holds as they begin
pub record IsPartDone (s : Prefixes) (start from count : ℕ) (before after registers : List ℕ) : Type 0 where
  pub long : length after ≡ length before
  pub does : (cells : List ℕ) → IsPlaced s from count before cells → start ≡ carried_by s cells from → LeavesOwn s from count after registers cells

-- a number is what so many turns from one on add to the register
abbrev pub IsSum : Prefixes → ℕ → ℕ → List ℕ → ℕ → Type 0
IsSum s from count mine sum = (cells : List ℕ) → IsPlaced s from count mine cells → carried_by s cells (from + count) ≡ (carried_by s cells from + sum) % 2 ^ 64
