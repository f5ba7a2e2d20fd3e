-- The numbers of vectors.
use Rattle.std.specs.Prelude.{◌<◌, List, [], ◌∷◌}
use Rattle.nest_space.specs.Space.{Turns}

-- each loop turns
abbrev pub EachTurns : List Turns → Type 0
EachTurns [] = Unit {0}
EachTurns (t ∷ ts) = (0 < t.count) × EachTurns ts
