use Rattle.std.proofs.Common.{◌≡◌, ◌<◌, length, map, slice_get, Some}
use Rattle.nest_space.specs.Space.{vectors}
use Rattle.waves.specs.Table.{AreLevels}
use Rattle.waves.proofs.leveling.levels_by.Given as goal

abbrev pub invariant-loop-number : goal.invariant-loop-number
invariant-loop-number l =
    (length l.values ≡ length l.space)
    × (length l.levels.items ≡ l._number)
    × AreLevels (vectors l.space) (map (λ d. d.items) l.distances) l.levels.items
    × (l._number < length (vectors l.space) → slice_get (vectors l.space) l._number ≡ Some l.values)
