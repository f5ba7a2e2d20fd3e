-- What the code keeps of a sum of unknowns.
use Rattle.std.specs.Prelude.{◌≡◌, ◌^◌, List}
use Rattle.std.specs.Int.{w128, saturate_signed}
use Rattle.pairtest.specs.declared.reach.Reach.{Reach}
use Rattle.pairtest.specs.Equations.{Unknown, IsGreatestDivisor, least_sum, greatest_sum, CoefficientsWithin}

-- the divisor and the ends of a sum whose coefficients are within 2^62, each end as far as 128 bits hold it
pub record Summarizes (r : Reach) (us : List Unknown) : Type 0 where
  pub within : CoefficientsWithin (2 ^ 62) us
  pub divisor : IsGreatestDivisor us r.divisor
  pub least : r.least ≡ saturate_signed w128 (least_sum us)
  pub greatest : r.greatest ≡ saturate_signed w128 (greatest_sum us)
