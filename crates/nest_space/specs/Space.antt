-- The iterations of a rectangular nest, numbered in the order in which C runs them. (OpenMP 5.2, 4.4.2 and 4.4.3)
use Rattle.std.specs.Prelude.{ℕ, zero, suc, ◌+◌, ◌-◌, ◌*◌, ◌<◌, ◌≤◌, ◌^◌, List, [], ◌∷◌, map, flat_map, length}
use Rattle.semantics.specs.Loops.Nest.{Vector}
use Rattle.nest_loop.specs.declared.stride.Direction.{Direction}
use Rattle.nest_loop.specs.declared.stride.Direction.TheVariants.{Rising, Falling}
use Rattle.nest_loop.specs.declared.stride.Stride.{Stride}

-- how one loop of a nest runs: its first value, its step, and how often it turns
pub record Turns : Type 0 where
  pub first : ℕ
  pub stride : Stride
  pub count : ℕ

-- the value after so many steps, all of one size
abbrev pub moved : Direction → ℕ → ℕ → ℕ
moved Rising v n = v + n
moved Falling v n = v - n

-- n values, the first being v
abbrev pub counted : Stride → ℕ → ℕ → List ℕ
counted s v zero = []
counted s v (suc n) = v ∷ counted s (moved s.direction v s.by) n

-- the values of a loop's variable, in order
abbrev pub values_of : Turns → List ℕ
values_of t = counted t.stride t.first t.count

-- the vectors of the loops' values, the outermost loop first and the innermost the fastest
abbrev pub vectors : List Turns → List Vector
vectors [] = [] ∷ []
vectors (t ∷ ts) = flat_map (λ v. map (λ us. v ∷ us) (vectors ts)) (values_of t)

-- how many there are
abbrev pub product : List Turns → ℕ
product [] = 1
product (t ∷ ts) = t.count * product ts

-- no value of a loop leaves the numbers below 2^64
abbrev pub LastFits : Direction → ℕ → ℕ → Type 0
LastFits Rising first n = first + n < 2 ^ 64
LastFits Falling first n = n ≤ first

-- a loop as the code holds it
pub record IsTurns (t : Turns) : Type 0 where
  pub steps : 1 ≤ t.stride.by
  pub last : LastFits t.stride.direction t.first (t.stride.by * (t.count - 1))

-- a space as the code holds it: one to four loops, with at most 2^24 iterations
pub record IsSpace (ts : List Turns) : Type 0 where
  pub loops : length ts ≤ 4
  pub few : product ts ≤ 2 ^ 24
