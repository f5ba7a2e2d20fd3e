use Rattle.std.proofs.Common.{◌≡◌}
use Rattle.pairtest_access.specs.Found.{coefficients}
use Rattle.pairtest_access.proofs.subscripts.coefficients.Given as goal

-- the coefficients so far
abbrev pub invariant-loop-level : goal.invariant-loop-level
invariant-loop-level l = l.found.items ≡ coefficients l.level l.form
