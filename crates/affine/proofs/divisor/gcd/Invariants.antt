use Rattle.std.proofs.Common.{ℕ}
use Rattle.std.specs.Int.{IsGcd}
use Rattle.affine.proofs.divisor.gcd.Given as goal

-- the divisor that is left to find is the one that is looked for
abbrev pub invariant-loop-less : goal.invariant-loop-less
invariant-loop-less l = (g : ℕ) → IsGcd l.greater l.less g → IsGcd l.fn.a l.fn.b g

abbrev pub decreases-loop-less : goal.decreases-loop-less
decreases-loop-less l = l.less
