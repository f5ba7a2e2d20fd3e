-- The operands of a prefix sum's turns.
use Rattle.std.specs.Prelude.{ℕ, ◌+◌, ◌-◌, ◌*◌, List, take}
use Rattle.semantics.specs.Tree
use Rattle.lower_machine.specs.Machine.{machine, operate_or_zero}
use Rattle.lane_rows.specs.Lanes.{stepped}
use Rattle.law_lanes.specs.Lanes.{entered}
use Rattle.law_lanes.specs.Folds.{folded}
use Rattle.law_prefixes.specs.Prefixes.{left_in}
use Rattle.team_parts.specs.Parted.{parted}
use Rattle.team_scans.specs.declared.prefixes.Prefixes.{Prefixes}

-- what a turn's instructions up to its operand leave in the register, over the registers before all turns and so many cells
abbrev pub operand_of : Prefixes → List ℕ → ℕ → ℕ
operand_of s cells k = left_in s.scanned.target.at (take s.scanned.front s.scanned.laned.ops.now) (entered s.scanned.laned.variable.at (stepped s.first s.by) k (machine s.registers.now cells))

-- a number and those of so many turns from one on, added up
abbrev pub added : Prefixes → List ℕ → ℕ → ℕ → ℕ → ℕ
added s cells from v n = folded (operate_or_zero Tree.Plus) v (λ k. operand_of s cells (from + k)) n

-- the cells over which so many turns from one on run, of which these are their own
abbrev pub cells_of_part : Prefixes → ℕ → ℕ → List ℕ → List ℕ
cells_of_part s from count own = parted s.before.now (s.window.width * from) own (s.window.width * (s.count - from - count)) s.behind.now
