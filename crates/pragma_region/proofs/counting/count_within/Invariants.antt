use Rattle.std.proofs.Common.{◌≡◌, drop}
use Rattle.ktree.specs.View.{items_of}
use Rattle.pragma_named.specs.Known.{kept, lines_known}
use Rattle.pragma_region.specs.Counted.{lines_within, counted}
use Rattle.pragma_region.proofs.counting.count_within.Given as goal

-- what is counted so far, and what is still to be counted for the items that are left
abbrev pub invariant-loop-item : goal.invariant-loop-item
invariant-loop-item l = counted (lines_within l.region (items_of (drop l.item-index l.items))) (lines_known (kept l.lines)) ≡ counted (lines_within l.region (items_of l.items)) (lines_known (kept l.fn.lines))
