-- What is known on the way through the iterations.
use Rattle.std.specs.Prelude.{ℕ, ◌≡◌, ◌<◌, ◌≤◌, List, map, take, length, slice_get, get_or, Some}
use Rattle.semantics.specs.Loops.Nest.{Vector}
use Rattle.semantics.specs.Loops.Order.{Distance, level}
use Rattle.nest_space.specs.Sinks.{Fits}

-- the levels of the first iterations
pub record AreLevels (space : List Vector) (ds : List Distance) (levels : List ℕ) : Type 0 where
  pub are : levels ≡ map (level space ds) (take (length levels) space)
  pub small : (j : ℕ) → j < length levels → get_or levels j 0 ≤ j
  pub fit : (j : ℕ) (w : Vector) → j < length levels → slice_get space j ≡ Some w → Fits w
