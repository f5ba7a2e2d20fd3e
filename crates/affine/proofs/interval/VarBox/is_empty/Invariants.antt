use Rattle.std.proofs.Common.{ℕ, ◌<◌, get_or}
use Rattle.affine.specs.declared.interval.Side.{Side}
use Rattle.affine.specs.Box.{HasNone, interval_at}
use Rattle.affine.proofs.interval.VarBox.is_empty.Given as goal

-- the variables of the sides before have a value
abbrev pub invariant-loop-side : goal.invariant-loop-side
invariant-loop-side l = (k : ℕ) (d : Side) → k < l.side-index → ¬ (HasNone (interval_at l.self (get_or l.side-items k d).variable.0))
