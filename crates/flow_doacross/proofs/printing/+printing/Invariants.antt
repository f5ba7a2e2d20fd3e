use Rattle.std.proofs.Common.{◌≡◌, drop}
use Rattle.ktree.specs.View.{items_of}
use Rattle.law_waves.specs.Silent.{are_silent}
use Rattle.flow_doacross.proofs.printing.+printing.Given as goal

-- the items that are left decide
abbrev pub invariant-print_among-loop-item : goal.invariant-print_among-loop-item
invariant-print_among-loop-item l = are_silent (items_of (drop l.item-index l.items)) ≡ are_silent (items_of l.items)
