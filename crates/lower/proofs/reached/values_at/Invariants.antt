use Rattle.std.proofs.Common.{◌≡◌, take}
use Rattle.lower.specs.Lowered.{values_in}
use Rattle.lower.proofs.reached.values_at.Given as goal

abbrev pub invariant-loop-variable : goal.invariant-loop-variable
invariant-loop-variable l = l.values.items ≡ values_in (take l.variable-index l.around) l.registers
