use Rattle.std.proofs.Common.{◌≡◌, drop}
use Rattle.semantics.specs.Meaning.Agrees.{is_among}
use Rattle.law_scans.specs.Phases.{written_among}
use Rattle.ktree.specs.View.{items_of}
use Rattle.flow_scan.proofs.writing.+writing.Given as goal

-- the items that are left decide
abbrev pub invariant-first_write-loop-item : goal.invariant-first_write-loop-item
invariant-first_write-loop-item l =
    is_among (written_among (items_of (drop l.item-index l.items))) l.variable.0 ≡ is_among (written_among (items_of l.items)) l.variable.0
