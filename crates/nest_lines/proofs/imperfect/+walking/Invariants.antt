use Rattle.std.proofs.Common.{◌≡◌, drop, None}
use Rattle.ktree.specs.View.{items_of}
use Rattle.pragma_region.specs.Listed.{line_of}
use Rattle.pragma_named.specs.Lines.{each_among}
use Rattle.nest_lines.specs.Perfect.{is_perfect}
use Rattle.nest_lines.proofs.imperfect.+walking.Given as goal

-- the items that are left decide
abbrev pub invariant-imperfect_among-loop-item : goal.invariant-imperfect_among-loop-item
invariant-imperfect_among-loop-item l = each_among (is_perfect l.directives) (line_of l.before) (items_of (drop l.item-index l.items)) ≡ each_among (is_perfect l.directives) None (items_of l.items)
