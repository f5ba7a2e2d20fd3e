use Rattle.std.proofs.Common.{◌≡◌, drop}
use Rattle.ktree.specs.View.{items_of}
use Rattle.pragma_region.specs.NotKnown.{unknown_among}
use Rattle.pragma_region.proofs.unknown.+unknown.Given as goal

-- the items that are left decide
abbrev pub invariant-items_unknown-loop-item : goal.invariant-items_unknown-loop-item
invariant-items_unknown-loop-item l = unknown_among l.directives (items_of (drop l.item-index l.items)) ≡ unknown_among l.directives (items_of l.items)
