use Rattle.std.proofs.Common.{◌≡◌, ◌<◌, ◌^◌, drop}
use Rattle.semantics.specs.Source.Cuts.{decimal_from}
use Rattle.text.proofs.decimal.value.Given as goal

abbrev pub invariant-loop-digit : goal.invariant-loop-digit
invariant-loop-digit l = (l.value < 2 ^ 64) × (decimal_from l.value (drop l.digit-index l.digits) ≡ decimal_from 0 l.digits)
