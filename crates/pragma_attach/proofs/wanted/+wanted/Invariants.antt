use Rattle.std.proofs.Common.{◌≡◌, drop}
use Rattle.std.specs.Prelude.{None}
use Rattle.ktree.specs.View.{items_of}
use Rattle.pragma_mention.specs.Sets.{holds}
use Rattle.pragma_named.specs.Known.{kept}
use Rattle.pragma_named.specs.Known.{lines_known}
use Rattle.pragma_named.specs.Lines.{each_among}
use Rattle.pragma_attach.specs.Rightly.{line_wanted}
use Rattle.pragma_attach.proofs.wanted.+wanted.Given as goal

-- the items that are left decide
abbrev pub invariant-items_fault-loop-item : goal.invariant-items_fault-loop-item
invariant-items_fault-loop-item l =
    each_among (line_wanted l.wanted (holds l.set) (lines_known (kept l.table))) l.before (items_of (drop l.item-index l.items))
    ≡ each_among (line_wanted l.wanted (holds l.set) (lines_known (kept l.table))) None (items_of l.items)
