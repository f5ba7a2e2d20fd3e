use Rattle.std.proofs.Common.{◌≡◌, drop}
use Rattle.law_roles.specs.Updates.{operator_of}
use Rattle.flow_reduction.specs.Reduced.{reduced}
use Rattle.flow_reduction.proofs.reduction.operator.Given as goal

-- those that are left decide
abbrev pub invariant-loop-reduction : goal.invariant-loop-reduction
invariant-loop-reduction l = operator_of (reduced (drop l.reduction-index l.reductions)) l.variable.0 ≡ operator_of (reduced l.reductions) l.variable.0
