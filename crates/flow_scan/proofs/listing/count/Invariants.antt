use Rattle.std.proofs.Common.{◌≡◌, ◌≤◌, ◌+◌, drop}
use Rattle.ktree.specs.View.{items_of}
use Rattle.flow_scan.specs.Parts.{count}
use Rattle.flow_scan.proofs.listing.count.Given as goal

-- so many so far, and those that are left
abbrev pub invariant-loop-item : goal.invariant-loop-item
invariant-loop-item l = (l.number + count (items_of (drop l.item-index l.items)) ≡ count (items_of l.items)) × (l.number ≤ l.item-index)
