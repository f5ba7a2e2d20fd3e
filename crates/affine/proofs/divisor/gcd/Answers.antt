use Rattle.std.proofs.Common.{arith}
use Rattle.std.proofs.lemmas.Nat.Gcd.{IsGcd-from_zero, IsGcd-from_mod}
use Rattle.affine.proofs.Divisors.{IsGcd-zero}
use Rattle.affine.proofs.divisor.gcd.Goals as goal

pub loop-less-preserved : goal.loop-less-preserved
loop-less-preserved c g h = c.loop-less.invariant g (IsGcd-from_mod _ _ g h)

pub returns-clause-divisor : goal.returns-clause-divisor
returns-clause-divisor c = c.loop-less.invariant _ (IsGcd-from_zero _ _ (omega arith))

pub returns-clause-zero : goal.returns-clause-zero
returns-clause-zero c = IsGcd-zero _ _ _ (c.loop-less.invariant _ (IsGcd-from_zero _ _ (omega arith)))
