use Rattle.std.proofs.Common.{◌≡◌}
use Rattle.ktree.specs.View.{items_of}
use Rattle.law_lines.specs.Without.{without_among}
use Rattle.pragma_region.specs.Regions.{is_left_out}
use Rattle.pragma_region.proofs.Lines.{with_items}
use Rattle.pragma_region.proofs.dissolving.+statement.Given as goal

-- what is kept so far, and of the items that are left what is to be kept
abbrev pub invariant-items_without-loop-item : goal.invariant-items_without-loop-item
invariant-items_without-loop-item l =
    with_items l.kept.items (without_among (is_left_out l.fn.directives) (items_of l.item-iterator.rest.items)) ≡ without_among (is_left_out l.fn.directives) (items_of l.fn.items.items)
