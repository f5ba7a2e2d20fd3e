-- What machines hold where a loop's variables with a role stand.
use Rattle.std.specs.Prelude.{ℕ, ◌<◌, ◌^◌, List, [], ◌∷◌, map, Option, Some, slice_index, slice_set}
use Rattle.ktree.specs.DirectiveView.{operator_of}
use Rattle.semantics.specs.Loops.Operator.{ReduceOp}
use Rattle.law_roles.specs.Sharing.{begins_with, unless_same}
use Rattle.lower_machine.specs.Machine.{Machine, machine}
use Rattle.lower.specs.declared.roles.Spot.{Spot}
use Rattle.lower.specs.declared.roles.Spot.TheVariants.{Register, Cell}
use Rattle.lower.specs.declared.roles.LoweredReduction.{LoweredReduction}
use Rattle.overlay.specs.declared.beginning.Start.{Start}
use Rattle.overlay.specs.declared.beginning.Start.TheVariants.{Reduction, Scan}

-- what is held there
abbrev pub held_at : Spot → Machine → ℕ
held_at (Register r) m = slice_index m.registers r.0
held_at (Cell place) m = slice_index m.cells place

-- another number is
abbrev pub with_at : Spot → ℕ → Machine → Machine
with_at (Register r) v m = machine (slice_set m.registers r.0 v) m.cells
with_at (Cell place) v m = machine m.registers (slice_set m.cells place v)

-- what a reduction variable begins with, by its operator and what it held before the loop: what a chunk may begin with, or a number that is given (OpenMP 5.2, 5.5.2 and 5.6)
abbrev pub begins_at : Start → ReduceOp → ℕ → ℕ
begins_at Reduction op held = begins_with op held
begins_at (Scan value) op held = value

-- such a number has 64 bits
abbrev pub IsWord : Start → Type 0
IsWord Reduction = Unit {0}
IsWord (Scan value) = value < 2 ^ 64

-- it takes that
abbrev pub beginning : Start → LoweredReduction → Machine → Machine
beginning start l m = with_at l.spot (begins_at start (operator_of l.operator) (held_at l.spot m)) m

-- so do all, one after another
abbrev pub begun_by : Start → List LoweredReduction → Machine → Machine
begun_by start [] m = m
begun_by start (l ∷ ls) m = begun_by start ls (beginning start l m)

-- the partial of a reduction variable, by machines before the loop and behind a chunk: what it holds in the end, unless that is what it began with
abbrev pub partial_at : Start → Machine → Machine → LoweredReduction → Option ℕ
partial_at start before behind l = unless_same (Some (begins_at start (operator_of l.operator) (held_at l.spot before))) (Some (held_at l.spot behind))

-- a cell holds again what it held in these cells
abbrev pub back_at : List ℕ → Spot → List ℕ → List ℕ
back_at before (Register r) cells = cells
back_at before (Cell place) cells = slice_set cells place (slice_index before place)

-- so do several
abbrev pub back_at_each : List ℕ → List Spot → List ℕ → List ℕ
back_at_each before [] cells = cells
back_at_each before (at ∷ spots) cells = back_at_each before spots (back_at before at cells)

-- where the variables stand
abbrev pub reduced_at : List LoweredReduction → List Spot
reduced_at ls = map (λ l. l.spot) ls
