use Rattle.std.proofs.Common.{◌≡◌, drop}
use Rattle.law_roles.specs.Updates.{same_exprs}
use Rattle.ktree.specs.View.{exprs_of}
use Rattle.flow_reduction.proofs.same.+same.Given as goal

-- those that are left decide
abbrev pub invariant-same_subscripts-loop-subscript : goal.invariant-same_subscripts-loop-subscript
invariant-same_subscripts-loop-subscript l =
    same_exprs (exprs_of (drop l.subscript-index l.left)) (exprs_of l.others) ≡ same_exprs (exprs_of l.left) (exprs_of l.right)
