-- Iterations in the order of rising loops. (OpenMP 5.2, 15.9.6)
use Rattle.std.specs.Prelude.{ℕ, Bool, true, false, ◌≡◌, ◌<◌, ◌==◌, ◌&&◌, ◌||◌, nat_lt, List, [], ◌∷◌, Some, Contains}
use Rattle.std.specs.List.{AllPairs, list_all}
use Rattle.semantics.specs.Meaning.State.{State}
use Rattle.semantics.specs.Loops.Nest.{Loop, Vector, at_value, loop_values, iterations}
use Rattle.semantics.specs.Loops.Order.{Distance, is_ahead, Respects}

-- earlier, where each loop's variable rises, by the outermost of the loops that tells them apart
abbrev pub is_earlier : Vector → Vector → Bool
is_earlier [] v = false
is_earlier (x ∷ xs) [] = false
is_earlier (x ∷ xs) (y ∷ ys) = nat_lt x y || ((x == y) && is_earlier xs ys)

-- such an order respects all sinks that lie ahead
abbrev pub RisingOrdersRespect : Type 0
RisingOrdersRespect =
    (us : List Vector) (ds : List Distance) → list_all is_ahead ds ≡ true → AllPairs (λ u v. is_earlier u v ≡ true) us → Respects us ds us

-- the values of each loop rise, at each turn of the loops round it
abbrev pub TheyRise : List Loop → State → Type 0
TheyRise [] s = Unit {0}
TheyRise (l ∷ ls) s =
    (vs : List ℕ) → loop_values l s ≡ Some vs → AllPairs (λ v w. v < w) vs × ((v : ℕ) → Contains vs v → TheyRise ls (at_value s l.variable v))

-- then the iterations of a nest of these stand in that order
abbrev pub RisingLoopsRise : Type 0
RisingLoopsRise =
    (loops : List Loop) (outer : State) (us : List Vector) → TheyRise loops outer → iterations loops outer ≡ Some us → AllPairs (λ u v. is_earlier u v ≡ true) us
