use Rattle.std.proofs.Common.{◌≡◌, map, drop}
use Rattle.std.specs.Prelude.{None}
use Rattle.ktree.specs.View.{declaration_of, items_of}
use Rattle.pragma_mention.specs.Sets.{holds}
use Rattle.pragma_named.specs.Known.{kept, lines_known}
use Rattle.pragma_named.specs.Lines.{each_among}
use Rattle.flow_clauses.specs.Fitting.{line_fits}
use Rattle.flow_clauses.proofs.walking.+walking.Given as goal

-- the items that are left decide
abbrev pub invariant-items_fault-loop-item : goal.invariant-items_fault-loop-item
invariant-items_fault-loop-item l =
    each_among (line_fits (map declaration_of l.files) (holds l.loops) (lines_known (kept l.lines))) l.before (items_of (drop l.item-index l.items))
    ≡ each_among (line_fits (map declaration_of l.files) (holds l.loops) (lines_known (kept l.lines))) None (items_of l.items)
