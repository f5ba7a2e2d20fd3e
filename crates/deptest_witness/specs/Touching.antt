-- Which elements accesses touch at the iterations of a nest. (OpenMP 5.2, 4.4.1 and 4.4.2; C11 6.5.2.1)
use Rattle.std.specs.Prelude.{ℕ, ◌≡◌, ◌<◌, ◌^◌, ◌++◌, ℤ, pos, List, [], ◌∷◌, slice_get, Some}
use Rattle.semantics.specs.Tree.{Variable}
use Rattle.semantics.specs.Loops.Nest.{Vector}
use Rattle.affine.specs.Affine.{Affine, value}
use Rattle.nest_loop.specs.declared.head.Canonical.{Canonical}
use Rattle.nest_space.specs.declared.bounds.Value.{Value}
use Rattle.nest_space.specs.Space.{Turns, vectors}
use Rattle.nest_space.specs.Nests.{given, IsRunOf, AreRunsOf}

-- a loop's variable has this value
abbrev pub holding : Canonical → ℕ → Value
holding l v = record { variable = l.variable; value = v }

-- inside the variables' values `before`, each of these loops has a first turn inside the first turns of those round it; there the variables have the values `there`
abbrev pub FirstTurns : List Canonical → List Value → List Value → Type 0
FirstTurns [] before there = there ≡ before
FirstTurns (l ∷ ls) before there = (t : Turns) × IsRunOf l (given before) t × (0 < t.count) × FirstTurns ls (before ++ (holding l t.first ∷ [])) there

-- the values that a vector gives to the loops' variables
abbrev pub held : List Canonical → Vector → List Value
held [] vs = []
held (l ∷ ls) [] = []
held (l ∷ ls) (v ∷ vs) = holding l v ∷ held ls vs

-- these subscripts have these values, each a number of `uint64_t`
abbrev pub AreIndexes : List Affine → (Variable → ℤ) → List ℕ → Type 0
AreIndexes [] values [] = Unit {0}
AreIndexes [] values (i ∷ is) = ⊥
AreIndexes (f ∷ fs) values [] = ⊥
AreIndexes (f ∷ fs) values (i ∷ is) = (value f values ≡ pos i) × (i < 2 ^ 64) × AreIndexes fs values is

-- an access in the body of a nest: its subscripts, and the body's own loops round it, the outermost first
pub record Access : Type 0 where
  pub subscripts : List Affine
  pub inner : List Canonical

-- inside the variables' values the access touches the element of these indexes: at the first turns of its own loops
pub record Touches (access : Access) (values : List Value) (indexes : List ℕ) : Type 0 where
  pub there : List Value
  pub turns : FirstTurns access.inner values there
  pub are : AreIndexes access.subscripts (given there) indexes

-- a nest, inside the variables' values round it: its loops, and how each runs there
pub record NestAt : Type 0 where
  pub outer : List Value
  pub loops : List Canonical
  pub turns : List Turns

-- the nest at the first turns of the serial loops round it
pub record IsEntered (serial nest : List Canonical) (region : NestAt) : Type 0 where
  pub loops : region.loops ≡ nest
  pub first : FirstTurns serial [] region.outer
  pub runs : AreRunsOf nest (given region.outer) region.turns

-- at the iteration of this number the access touches the element of these indexes
pub record TouchesAt (region : NestAt) (access : Access) (number : ℕ) (indexes : List ℕ) : Type 0 where
  pub vector : Vector
  pub is : slice_get (vectors region.turns) number ≡ Some vector
  pub touches : Touches access (region.outer ++ held region.loops vector) indexes
