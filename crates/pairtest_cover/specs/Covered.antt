-- Pairs of accesses in a doacross nest that a sink of it orders. (OpenMP 5.2, 15.9.6 and 1.4.1)
use Rattle.std.specs.Prelude.{◌≡◌, ◌≢◌, ℕ, ℤ, pos, neg_ℤ, ◌<◌, ◌≤◌, ◌-ℤ◌, ◌*ℤ◌, ◌⊎◌, List, map, length, slice_index_or, Any, All, Contains}
use Rattle.semantics.specs.Loops.Order.{Distance}
use Rattle.pairtest.specs.declared.access.Subscript.{Subscript}
use Rattle.pairtest.specs.declared.access.Access.{Access}
use Rattle.pairtest.specs.declared.access.Nest.{Nest}
use Rattle.pairtest.specs.DirectionVectors.{coefficient, place_of, dimensions, AllRefuted}

-- the coefficient of the nest's k-th loop
abbrev pub coefficient_at : Nest → ℕ → Subscript → ℤ
coefficient_at nest k s = coefficient s.coefficients.items (place_of nest k)

-- the counter of the nest's k-th loop stands in a subscript
abbrev pub StandsIn : Nest → ℕ → Subscript → Type 0
StandsIn nest k s = coefficient_at nest k s ≢ pos 0

-- besides serial counters at most one counter stands in a subscript, and that of a loop of the nest
pub record IsSimple (nest : Nest) (s : Subscript) : Type 0 where
  pub no_inner : (i : ℕ) → place_of nest (length nest.loops.items) ≤ i → coefficient s.coefficients.items i ≡ pos 0
  pub one : (k l : ℕ) → StandsIn nest k s → StandsIn nest l s → k ≡ l

-- both subscripts of a dimension have the same coefficients, with at most one counter of the nest
pub record IsUniform (nest : Nest) (s t : Subscript) : Type 0 where
  pub same : (i : ℕ) → coefficient s.coefficients.items i ≡ coefficient t.coefficients.items i
  pub simple : IsSimple nest s

-- both subscripts are equal where the counter of the nest's k-th loop is by this number greater on the second side than on the first
abbrev pub IsEqualAt : Nest → ℕ → ℤ → Subscript → Subscript → Type 0
IsEqualAt nest k far s t = coefficient_at nest k s *ℤ far ≡ s.constant -ℤ t.constant

-- the counter of the nest's k-th loop stands in some dimension, and in each in which it does both sides are equal where it is greater by this number in the second access's iteration
pub record IsApart (nest : Nest) (x y : Access) (k : ℕ) (far : ℤ) : Type 0 where
  pub stands : Any (λ d. StandsIn nest k d.0) (dimensions x y)
  pub equal : All (λ d. StandsIn nest k d.0 → IsEqualAt nest k far d.0 d.1) (dimensions x y)

-- so many times a distance
abbrev pub steps : ℤ → Distance → Distance
steps m ds = map (λ d. m *ℤ d) ds

-- a sink of the nest orders the accesses: they have one distance vector, which is so many times that of the sink, forwards or backwards
pub record IsCoveredBy (nest : Nest) (ds : List Distance) (x y : Access) : Type 0 where
  -- each dimension has the same coefficients on both sides, with at most one counter of the nest and none of the body's loops
  pub uniform : All (λ d. IsUniform nest d.0 d.1) (dimensions x y)
  -- the distance vector: where the accesses meet, each counter of the nest is so much greater in the second one's iteration
  pub far : Distance
  pub loops : length far ≡ length nest.loops.items
  pub apart : (k : ℕ) → k < length nest.loops.items → IsApart nest x y k (slice_index_or far k (pos 0))
  -- it is some number of steps of a sink, or the opposite of that
  pub sink : Distance
  pub named : Contains ds sink
  pub times : ℕ
  pub once : 1 ≤ times
  pub multiple : (far ≡ steps (pos times) sink) ⊎ (far ≡ steps (neg_ℤ (pos times)) sink)

-- the accesses are independent, or a sink orders them
abbrev pub IsOrdered : Nest → List Distance → Access → Access → Type 0
IsOrdered nest ds x y = AllRefuted nest x y ⊎ IsCoveredBy nest ds x y
