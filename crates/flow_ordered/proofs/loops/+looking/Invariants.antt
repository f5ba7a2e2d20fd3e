use Rattle.std.specs.Prelude.{◌≡◌, None, drop}
use Rattle.ktree.specs.View.{items_of}
use Rattle.pragma_region.specs.Listed.{line_of}
use Rattle.flow_ordered.specs.Ordered.{are_ordered_rightly}
use Rattle.flow_ordered.proofs.loops.+looking.Given as goal

-- the items that are left decide
abbrev pub invariant-items_disorder-loop-item : goal.invariant-items_disorder-loop-item
invariant-items_disorder-loop-item l =
    are_ordered_rightly l.directives (line_of l.before) (items_of (drop l.item-index l.items)) ≡ are_ordered_rightly l.directives None (items_of l.items)
