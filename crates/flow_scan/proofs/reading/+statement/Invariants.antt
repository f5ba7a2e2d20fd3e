use Rattle.std.proofs.Common.{◌≡◌, drop}
use Rattle.ktree.specs.View.{items_of}
use Rattle.flow_scan.specs.Sharing.{read_only}
use Rattle.flow_scan.specs.Views.{is_spared}
use Rattle.flow_scan.proofs.reading.+statement.Given as goal

-- the items that are left decide
abbrev pub invariant-first_read-loop-item : goal.invariant-first_read-loop-item
invariant-first_read-loop-item l =
    read_only (is_spared l.set l.but.0) (items_of (drop l.item-index l.items)) ≡ read_only (is_spared l.set l.but.0) (items_of l.items)
