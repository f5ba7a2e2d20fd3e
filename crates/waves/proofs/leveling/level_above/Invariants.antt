use Rattle.std.proofs.Common.{◌≡◌, ◌≤◌, length, drop, map, max}
use Rattle.semantics.specs.Loops.Order.{one_above, sinks_of, level}
use Rattle.nest_space.specs.Space.{vectors}
use Rattle.waves.proofs.leveling.level_above.Given as goal

abbrev pub invariant-loop-distance : goal.invariant-loop-distance
invariant-loop-distance l =
    let space = vectors l.space in
    let ds = map (λ d. d.items) l.distances in
    (l.above ≤ length l.levels)
    × (max l.above (one_above (map (level space ds) (sinks_of space (drop l.distance-index ds) l.values))) ≡ level space ds l.values)
