use Rattle.std.proofs.Common.{◌≡◌, ◌^◌, ◌-◌}
use Rattle.std.specs.Prelude.{min, nat_le, is_none}
use Rattle.cparse.proofs.ExtentLemmas.{sum_to}
use Rattle.cparse.proofs.extent.too_many.Given as goal

-- the sum so far, as far as it can be counted, and whether it is too great
abbrev pub invariant-loop-variable : goal.invariant-loop-variable
invariant-loop-variable l =
    record {
      total : l.total ≡ min (sum_to l.variables l.variable-index) (2 ^ 64 - 1);
      fault : is_none l.fault ≡ nat_le (sum_to l.variables l.variable-index) (2 ^ 24);
    }
