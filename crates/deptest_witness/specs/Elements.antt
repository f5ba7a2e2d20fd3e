-- What the code holds of nests and of elements.
use Rattle.std.specs.Prelude.{ℕ, ◌≡◌, ◌<◌, ◌≤◌, ◌↔◌, ◌++◌, List, length, slice_get, Option, Some, None}
use Rattle.std.specs.Global.{Vec}
use Rattle.semantics.specs.Loops.Nest.{Vector}
use Rattle.nest_space.specs.declared.bounds.Value.{Value}
use Rattle.nest_space.specs.Space.{vectors}
use Rattle.nest_space.specs.Nests.{given, AreModest, AreRunsOf}
use Rattle.deptest_witness.specs.declared.elements.Touch.{Touch}
use Rattle.deptest_witness.specs.declared.elements.Region as held_region
use Rattle.deptest_witness.specs.Touching.{Access, NestAt, TouchesAt, held}

-- the access that the code holds
abbrev pub access_of : Touch → Access
access_of touch = record { subscripts = touch.subscripts.now; inner = touch.inner.now }

-- the nest that the code holds
abbrev pub region_of : held_region.Region → NestAt
region_of r = record { outer = r.outer.now; loops = r.loops.now; turns = r.space.now }

-- at most four loops, that run so, and no value round them is too large
pub record IsKnown (region : NestAt) : Type 0 where
  pub loops : length region.loops ≤ 4
  pub modest : AreModest region.outer
  pub runs : AreRunsOf region.loops (given region.outer) region.turns

-- the values of the variables at the iteration of this number
pub record IsAtNumber (region : NestAt) (number : ℕ) (values : List Value) : Type 0 where
  pub vector : Vector
  pub is : slice_get (vectors region.turns) number ≡ Some vector
  pub values_are : values ≡ region.outer ++ held region.loops vector

-- an element that was found has these indexes
abbrev pub Names : Option (Vec ℕ) → List ℕ → Type 0
Names None indexes = ⊥
Names (Some found) indexes = found.items ≡ indexes

-- what stands in a list under a number
abbrev pub NamesAt : List (Option (Vec ℕ)) → ℕ → List ℕ → Type 0
NamesAt elements number indexes = (element : Option (Vec ℕ)) × (slice_get elements number ≡ Some element) × Names element indexes

-- under each number stands what the access touches at that iteration
abbrev pub AreElements : NestAt → Access → List (Option (Vec ℕ)) → Type 0
AreElements region access elements = (number : ℕ) → number < length elements → (indexes : List ℕ) → TouchesAt region access number indexes ↔ NamesAt elements number indexes
