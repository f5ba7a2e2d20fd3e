use Rattle.std.proofs.Common.{◌≡◌, drop}
use Rattle.ktree.specs.View.{items_of}
use Rattle.flow_scan.specs.Parts.{has_statement}
use Rattle.flow_scan.proofs.cutting.has_statement.Given as goal

-- the items that are left decide
abbrev pub invariant-loop-item : goal.invariant-loop-item
invariant-loop-item l = has_statement (items_of (drop l.item-index l.items)) ≡ has_statement (items_of l.items)
