-- Iterations of a doacross nest that lie some steps of a sink behind others. (OpenMP 5.2, 15.9.6)
use Rattle.std.specs.Prelude.{◌≡◌, ℕ, pos, ◌+◌, ◌≤◌, ◌+ℤ◌, ◌*ℤ◌, ◌⊎◌, List, [], ◌∷◌, map, Contains}
use Rattle.semantics.specs.Loops.Nest.{Vector}
use Rattle.semantics.specs.Loops.Order.{Distance, Before}
use Rattle.nest_loop.specs.declared.stride.Direction.TheVariants.{Rising}
use Rattle.nest_space.specs.Space.{Turns, vectors}
use Rattle.pairtest.specs.declared.access.Access.{Access}
use Rattle.pairtest.specs.declared.access.Nest.{Nest}
use Rattle.pairtest.specs.Meetings.{Turn, AreBelow, Meet}
use Rattle.pairtest_cover.specs.Covered.{IsCoveredBy}

-- the second vector is the first one moved so many times by a distance
abbrev pub LiesBehind : ℕ → Distance → List ℕ → List ℕ → Type 0
LiesBehind m [] [] [] = Unit {0}
LiesBehind m [] [] (v ∷ vs) = ⊥
LiesBehind m [] (u ∷ us) vs = ⊥
LiesBehind m (d ∷ ds) [] vs = ⊥
LiesBehind m (d ∷ ds) (u ∷ us) [] = ⊥
LiesBehind m (d ∷ ds) (u ∷ us) (v ∷ vs) = (pos v ≡ pos u +ℤ pos m *ℤ d) × LiesBehind m ds us vs

-- of two vectors one is the other moved some times by the distance of a sink
pub record LieApart (ds : List Distance) (u v : List ℕ) : Type 0 where
  pub sink : Distance
  pub named : Contains ds sink
  pub times : ℕ
  pub once : 1 ≤ times
  pub behind : LiesBehind times sink u v ⊎ LiesBehind times sink v u

-- covered accesses meet only in iterations that lie some steps of a sink apart
abbrev pub CoveredPairsLieApart : Type 0
CoveredPairsLieApart =
    (nest : Nest) (ds : List Distance) (x y : Access) (s t : Turn) → IsCoveredBy nest ds x y → Meet nest x y s t → LieApart ds s.nest t.nest

-- each loop rises by 1
abbrev pub EachRisesByOne : List Turns → Type 0
EachRisesByOne [] = Unit {0}
EachRisesByOne (t ∷ ts) = (t.stride.direction ≡ Rising) × (t.stride.by ≡ 1) × EachRisesByOne ts

-- in a rectangular nest of such loops a sink's steps lead from one iteration to the other
abbrev pub SinksLeadThere : Type 0
SinksLeadThere =
    (ts : List Turns) (ds : List Distance) (sink : Distance) (m : ℕ) (u v : Vector) → EachRisesByOne ts → Contains ds sink → 1 ≤ m
    → Contains (vectors ts) u → Contains (vectors ts) v → LiesBehind m sink u v → Before (vectors ts) ds u v

-- the values of the loops' variables at these counters
abbrev pub at_counters : List Turns → List ℕ → Vector
at_counters [] ks = []
at_counters (t ∷ ts) [] = []
at_counters (t ∷ ts) (k ∷ ks) = (t.first + k) ∷ at_counters ts ks

-- so iterations at counters that lie apart are ordered
abbrev pub CountersAreOrdered : Type 0
CountersAreOrdered =
    (ts : List Turns) (ds : List Distance) (s t : List ℕ) → EachRisesByOne ts → AreBelow s (map (λ l. l.count) ts) → AreBelow t (map (λ l. l.count) ts) → LieApart ds s t
    → Before (vectors ts) ds (at_counters ts s) (at_counters ts t) ⊎ Before (vectors ts) ds (at_counters ts t) (at_counters ts s)
