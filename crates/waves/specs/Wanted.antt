-- What is wanted of the waves of a nest. (OpenMP 5.2, 15.9.6 and 15.10.1)
use Rattle.std.specs.Prelude.{ℕ, ◌≡◌, ◌==◌, List, [], ◌∷◌, ◌++◌, map, filter, length, get_or}
use Rattle.semantics.specs.Loops.Nest.{Vector}
use Rattle.semantics.specs.Loops.Order.{Distance, level, wave_count, waves}
use Rattle.semantics.specs.Meaning.Places.{below}

-- the sinks of a nest of so many loops
pub record SinkList : Type 0 where
  pub loops : ℕ
  pub distances : List Distance

-- one more
abbrev pub with_sink : SinkList → Distance → SinkList
with_sink s d = record { loops = s.loops; distances = s.distances ++ (d ∷ []) }

-- the iteration at a number
abbrev pub vector_at : List Vector → ℕ → Vector
vector_at space k = get_or space k []

-- the numbers of the iterations of one level, rising
abbrev pub numbers_of : List Vector → List Distance → ℕ → List ℕ
numbers_of space ds i = filter (λ k. level space ds (vector_at space k) == i) (below (length space))

-- the numbers of the iterations level by level, and the iterations at them
pub record AreWaves (space : List Vector) (ds : List Distance) (numbers : List (List ℕ)) : Type 0 where
  pub count : length numbers ≡ wave_count space ds
  pub each : numbers ≡ map (numbers_of space ds) (below (wave_count space ds))
  pub iterations : map (map (vector_at space)) numbers ≡ waves space ds
