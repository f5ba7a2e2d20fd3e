use Rattle.std.specs.Prelude.{◌≡◌, false, is_some, drop}
use Rattle.ktree.specs.View.{items_of}
use Rattle.flow_ordered.specs.Ordered.{met_among}
use Rattle.flow_ordered.proofs.regions.+meeting.Given as goal

-- the items that are left decide
abbrev pub invariant-meet_items-loop-item : goal.invariant-meet_items-loop-item
invariant-meet_items-loop-item l =
    met_among l.directives l.may (is_some l.before.line) l.before.region (items_of (drop l.item-index l.items)) ≡ met_among l.directives l.may false l.met (items_of l.items)
