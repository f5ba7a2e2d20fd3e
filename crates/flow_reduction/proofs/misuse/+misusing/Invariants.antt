use Rattle.std.proofs.Common.{◌≡◌, drop}
use Rattle.law_roles.specs.Updates.{all_reduce}
use Rattle.ktree.specs.View.{items_of}
use Rattle.flow_reduction.specs.Reduced.{reduced}
use Rattle.flow_reduction.proofs.misuse.+misusing.Given as goal

-- the items that are left decide
abbrev pub invariant-first_misuse_among-loop-item : goal.invariant-first_misuse_among-loop-item
invariant-first_misuse_among-loop-item l =
    all_reduce (reduced l.reductions) (items_of (drop l.item-index l.items)) ≡ all_reduce (reduced l.reductions) (items_of l.items)
