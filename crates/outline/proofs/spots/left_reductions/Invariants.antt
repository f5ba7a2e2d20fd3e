use Rattle.std.proofs.Common.{◌≡◌, ◌++◌, drop}
use Rattle.flow_reduction.specs.Reduced.{reduced}
use Rattle.outline.specs.Handed.{roles_of}
use Rattle.outline.proofs.spots.left_reductions.Given as goal

-- with those that are still to come they are all
abbrev pub invariant-loop-reduction : goal.invariant-loop-reduction
invariant-loop-reduction l = reduced l.left.items ++ reduced (drop l.reduction-index l.reduction-items) ≡ (roles_of l.kept).reductions
