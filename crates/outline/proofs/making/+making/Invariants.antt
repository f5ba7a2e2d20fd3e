use Rattle.std.proofs.Common.{◌≡◌, drop}
use Rattle.ktree.specs.View.{items_of}
use Rattle.outline.specs.Accepted.{ItemsAreRight}
use Rattle.outline.proofs.Shaped.{SoFar}
use Rattle.outline.proofs.making.+making.Given as goal

-- the items so far, and those that are left
abbrev pub invariant-outline_items-loop-item : goal.invariant-outline_items-loop-item
invariant-outline_items-loop-item l =
    SoFar l.target.layout.now l.target.registers l.loops l.fn.bounds l.items l.item-index l.outlines.items l.directive × (l.bounds ≡ l.fn.bounds)
    × ItemsAreRight l.target.layout.now l.target.registers l.loops.parallel.now l.fn.bounds l.directive (items_of (drop l.item-index l.items))
