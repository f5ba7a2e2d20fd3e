use Rattle.std.proofs.Common.{◌≡◌, ◌++◌, map, take}
use Rattle.ktree.specs.DirectiveView.{name_of, operator_of}
use Rattle.pragma_region.specs.Listed.{reduction_named}
use Rattle.pragma_region.proofs.listing.add_reduced.Given as goal

-- those of the names so far
abbrev pub invariant-loop-written : goal.invariant-loop-written
invariant-loop-written l =
    map reduction_named l.reductions.items ≡ map reduction_named l.fn.reductions.items ++ map (λ x. (x, operator_of l.operator)) (map name_of (take l.written-index l.names))
