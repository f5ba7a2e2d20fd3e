use Rattle.std.specs.Prelude.{◌≡◌, false, drop}
use Rattle.ktree.specs.View.{items_of}
use Rattle.pragma_attach.specs.Standing.{are_loops}
use Rattle.pragma_attach.proofs.placed.are_loops.Given as goal

-- the items that are left decide
abbrev pub invariant-loop-item : goal.invariant-loop-item
invariant-loop-item l = are_loops l.directives l.behind (items_of (drop l.item-index l.items)) ≡ are_loops l.directives false (items_of l.items)
