use Rattle.std.proofs.Common.{◌≡◌, ◌++◌, map, drop}
use Rattle.ktree.specs.View.{items_of}
use Rattle.pragma_region.specs.Listed.{sink_kept, sinks_among}
use Rattle.pragma_region.proofs.sinks.sinks_among.Given as goal

-- what is added so far, and what the items that are left add
abbrev pub invariant-loop-item : goal.invariant-loop-item
invariant-loop-item l = map sink_kept l.sinks.items ++ sinks_among l.directives (items_of (drop l.item-index l.items)) ≡ sinks_among l.directives (items_of l.items)
