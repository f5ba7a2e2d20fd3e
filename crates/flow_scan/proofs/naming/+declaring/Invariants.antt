use Rattle.std.proofs.Common.{◌≡◌, drop}
use Rattle.ktree.specs.View.{items_of}
use Rattle.flow_scan.specs.Lines.{declare}
use Rattle.flow_scan.proofs.naming.+declaring.Given as goal

-- the items that are left decide
abbrev pub invariant-declare-loop-item : goal.invariant-declare-loop-item
invariant-declare-loop-item l = declare l.variable.0 l.name (items_of (drop l.item-index l.items)) ≡ declare l.variable.0 l.name (items_of l.items)
