-- The iterations that the sinks of a doacross nest name. (OpenMP 5.2, 15.9.6)
use Rattle.std.specs.Prelude.{ℕ, ◌≡◌, ◌<◌, ◌^◌, List, All, slice_get, Some}
use Rattle.semantics.specs.Loops.Nest.{Vector}
use Rattle.semantics.specs.Loops.Order.{Distance, before_by}

-- each number is one of `uint64_t`
abbrev pub Fits : Vector → Type 0
Fits u = All (λ x. x < 2 ^ 64) u

-- the iteration that lies so far before has this number
pub record IsSinkAt (space : List Vector) (u : Vector) (d : Distance) (j : ℕ) : Type 0 where
  pub vector : Vector
  pub before : before_by u d ≡ Some vector
  pub is : slice_get space j ≡ Some vector

-- no number of `uint64_t` is out of reach: none of the iterations lies so far before
abbrev pub HasNoSink : List Vector → Vector → Distance → Type 0
HasNoSink space u d = (w : Vector) → before_by u d ≡ Some w → Fits w → (j : ℕ) → slice_get space j ≡ Some w → ⊥
