use Rattle.std.specs.Prelude.{◌≡◌, drop}
use Rattle.ktree.specs.View.{items_of}
use Rattle.flow_ordered.specs.Ordered.{are_prints}
use Rattle.flow_ordered.proofs.regions.are_prints.Given as goal

-- the items that are left decide
abbrev pub invariant-loop-item : goal.invariant-loop-item
invariant-loop-item l = are_prints (items_of (drop l.item-index l.items)) ≡ are_prints (items_of l.items)
