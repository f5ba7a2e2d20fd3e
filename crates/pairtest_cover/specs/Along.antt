-- What the code finds of one sink.
use Rattle.std.specs.Prelude.{◌≡◌, ◌≢◌, ℕ, ℤ, pos, ◌<◌, ◌≤◌, ◌*ℤ◌, List, length, slice_index_or}
use Rattle.semantics.specs.Loops.Order.{Distance}
use Rattle.pairtest.specs.declared.access.Access.{Access}
use Rattle.pairtest.specs.declared.access.Nest.{Nest}
use Rattle.pairtest.specs.DirectionVectors.{coefficient}
use Rattle.pairtest_cover.specs.Covered.{IsApart}

-- the first place from this one on whose coefficient is not 0
pub record IsFirstFrom (cs : List ℤ) (from place : ℕ) : Type 0 where
  pub behind : from ≤ place
  pub written : place < length cs
  pub stands : coefficient cs place ≢ pos 0
  pub before : (i : ℕ) → from ≤ i → i < place → coefficient cs i ≡ pos 0

-- the distance of the accesses is so many times that of a sink, in each loop of the nest
abbrev pub AreApart : Nest → Access → Access → Distance → ℤ → Type 0
AreApart nest x y sink m = (k : ℕ) → k < length nest.loops.items → IsApart nest x y k (m *ℤ slice_index_or sink k (pos 0))

-- it is some multiple of it
pub record LeadsThere (nest : Nest) (x y : Access) (sink : Distance) : Type 0 where
  pub loops : length sink ≡ length nest.loops.items
  pub times : ℤ
  pub some : times ≢ pos 0
  pub apart : AreApart nest x y sink times
