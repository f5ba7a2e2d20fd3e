use Rattle.std.specs.Prelude.{◌≡◌, drop}
use Rattle.semantics.specs.Meaning.Agrees.{is_among}
use Rattle.law_commute.specs.Targets.{targets_among}
use Rattle.ktree.specs.View.{items_of}
use Rattle.outline.proofs.targets.+assigning.Given as goal

-- the items that are left decide
abbrev pub invariant-assigned_in_block-loop-item : goal.invariant-assigned_in_block-loop-item
invariant-assigned_in_block-loop-item l =
    is_among (targets_among (items_of (drop l.item-index l.items))) l.variable.0 ≡ is_among (targets_among (items_of l.items)) l.variable.0
