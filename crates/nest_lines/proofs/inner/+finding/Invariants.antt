use Rattle.std.proofs.Common.{◌≡◌, drop}
use Rattle.ktree.specs.View.{items_of}
use Rattle.nest_lines.specs.Inner.{have_line}
use Rattle.nest_lines.proofs.inner.+finding.Given as goal

-- the items that are left decide
abbrev pub invariant-line_among-loop-item : goal.invariant-line_among-loop-item
invariant-line_among-loop-item l = have_line l.directives l.kind (items_of (drop l.item-index l.items)) ≡ have_line l.directives l.kind (items_of l.items)
