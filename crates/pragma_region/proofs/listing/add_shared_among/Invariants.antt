use Rattle.std.proofs.Common.{◌≡◌, ◌++◌, map, drop, Some, None}
use Rattle.ktree.specs.View.{items_of}
use Rattle.pragma_region.specs.Listed.{shared_among, part_said, line_of}
use Rattle.pragma_region.proofs.listing.add_shared_among.Given as goal

-- what is added so far, and what the items that are left add
abbrev pub invariant-loop-item : goal.invariant-loop-item
invariant-loop-item l =
    map part_said l.parts.items ++ map Some (shared_among l.directives (line_of l.before) (items_of (drop l.item-index l.items))) ≡ map part_said l.fn.parts.items ++ map Some (shared_among l.directives None (items_of l.items))
