use Rattle.std.proofs.Common.{◌≡◌, drop, None}
use Rattle.ktree.specs.View.{items_of}
use Rattle.pragma_named.specs.Known.{kept, lines_known}
use Rattle.pragma_region.specs.Listed.{line_of}
use Rattle.pragma_region.specs.Counted.{enclosed_among, counted}
use Rattle.pragma_region.proofs.counting.+counting.Given as goal

-- what is counted so far, and what is still to be counted for the items that are left
abbrev pub invariant-count_among-loop-item : goal.invariant-count_among-loop-item
invariant-count_among-loop-item l =
    counted (enclosed_among l.directives (line_of l.before) (items_of (drop l.item-index l.items))) (lines_known (kept l.lines)) ≡ counted (enclosed_among l.directives None (items_of l.items)) (lines_known (kept l.fn.lines))
