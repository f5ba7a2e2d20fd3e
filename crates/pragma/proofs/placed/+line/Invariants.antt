use Rattle.std.specs.Prelude.{◌≡◌, drop}
use Rattle.ktree.specs.View.{items_of}
use Rattle.pragma.specs.Plain.{has_line_among}
use Rattle.pragma.proofs.placed.+line.Given as goal

-- no line stands among the items so far
abbrev pub invariant-line_among-loop-item : goal.invariant-line_among-loop-item
invariant-line_among-loop-item l = has_line_among (items_of (drop l.item-index l.items)) ≡ has_line_among (items_of l.items)
