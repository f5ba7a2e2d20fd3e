-- Nests whose loops rise, as those of a doacross nest do. (OpenMP 5.2, 4.4.3 and 15.9.6)
use Rattle.std.specs.Prelude.{◌≡◌, ◌≤◌, List, [], ◌∷◌, All}
use Rattle.nest_loop.specs.declared.head.Canonical.{Canonical}
use Rattle.nest_loop.specs.declared.stride.Direction.TheVariants.{Rising}
use Rattle.nest_space.specs.Space.{Turns}

-- each loop rises, by at least 1
abbrev pub EachRises : List Turns → Type 0
EachRises [] = Unit {0}
EachRises (t ∷ ts) = (t.stride.direction ≡ Rising) × (1 ≤ t.stride.by) × EachRises ts

-- so does the loop of each of these heads, wherever it is reached
abbrev pub HeadsRise : List Canonical → Type 0
HeadsRise ls = All (λ l. l.stride.direction ≡ Rising) ls
