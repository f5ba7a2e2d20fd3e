use Rattle.std.specs.Prelude.{◌≡◌, ◌++◌, take, map, flat_map}
use Rattle.pragma_region.specs.Listed.{reduction_named}
use Rattle.listing.specs.Regions.{reduction_words}
use Rattle.listing.proofs.calls.add_reduced.Given as goal

-- those so far
abbrev pub invariant-loop-reduction : goal.invariant-loop-reduction
invariant-loop-reduction l = l.text.items ≡ l.initial.text.items ++ flat_map reduction_words (map reduction_named (take l.reduction-index l.reductions))
