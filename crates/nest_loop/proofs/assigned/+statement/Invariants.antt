use Rattle.std.proofs.Common.{◌≡◌, drop}
use Rattle.ktree.specs.View.{items_of}
use Rattle.nest_loop.specs.Canonical.{assigns_among}
use Rattle.nest_loop.proofs.assigned.+statement.Given as goal

-- the items that are left decide
abbrev pub invariant-some_assigns-loop-item : goal.invariant-some_assigns-loop-item
invariant-some_assigns-loop-item l = assigns_among l.variable.0 (items_of (drop l.item-index l.items)) ≡ assigns_among l.variable.0 (items_of l.items)
