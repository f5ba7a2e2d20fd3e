use Rattle.std.proofs.Common.{◌≡◌, ◌++◌, map, drop, None}
use Rattle.ktree.specs.View.{items_of}
use Rattle.pragma_region.specs.Listed.{regions_among, parts_of, part_said, line_of}
use Rattle.pragma_region.proofs.listing.+regions.Given as goal

-- what is added so far, and what the items that are left add
abbrev pub invariant-add_among-loop-item : goal.invariant-add_among-loop-item
invariant-add_among-loop-item l =
    map part_said l.parts.items ++ parts_of (regions_among l.directives (line_of l.before) (items_of (drop l.item-index l.items))) ≡ map part_said l.fn.parts.items ++ parts_of (regions_among l.directives None (items_of l.items))
