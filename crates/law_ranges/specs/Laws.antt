-- Accesses at the turns of the loops round them. (C11 6.5.6, 8; OpenMP 5.2, 4.4.2)
use Rattle.std.specs.Prelude.{ℕ, ◌≡◌, true, ℤ, List, [], ◌∷◌, Contains, Some, slice_get}
use Rattle.semantics.specs.Tree.{Variable, Declaration, Kernel}
use Rattle.law_lines.specs.Without.{IsTreeOf}
use Rattle.semantics.specs.Meaning.State.{State}
use Rattle.semantics.specs.Meaning.Value.{values}
use Rattle.semantics.specs.Meaning.Places as places
use Rattle.semantics.specs.Loops.Nest.{Loop, Vector, iterations, at_vector}
use Rattle.semantics.specs.Loops.Access.{Access, items_accesses}
use Rattle.affine.specs.declared.interval.Side.{Side}
use Rattle.affine.specs.Affine.{Affine, value}
use Rattle.nest_loop.specs.Sides.{CannotWrap}
use Rattle.nest_loop.specs.Turn.{AtTurn}
use Rattle.nest_space.specs.Heads.{IsHeadOf}
use Rattle.nest.specs.Nests.{lengths_of, IsInRange}
use Rattle.nest.specs.Leaves.{LeavesDimension}
use Rattle.nest.specs.Turns.{ConstantLoop, box_of, IsIndex}

-- the subscripts of an access have values, and these are within the lengths of its array
pub record IsWithin (ds : List Declaration) (access : Access) (s : State) : Type 0 where
  pub indexes : List ℕ
  pub are : values s access.subscripts ≡ Some indexes
  pub inside : places.within (lengths_of (slice_get ds access.array)) indexes ≡ true

-- so those of each access of a kernel in range, at each turn of the loops round it, whatever the state before these loops is
abbrev pub RangesHoldAtTurns : Type 0
RangesHoldAtTurns =
    (text : List ℕ) (k : Kernel) (access : Access) (s : State) (turns : List Vector) (u : Vector) → IsTreeOf text k → IsInRange k
    → Contains (items_accesses [] k.body) access → iterations access.inner s ≡ Some turns → Contains turns u → IsWithin k.variables access (at_vector access.inner u s)

-- loops of the text, the outermost first, inside some with constant bounds: each has constant bounds too; all of them, the innermost first
abbrev pub AreConstant : List ConstantLoop → List Loop → List ConstantLoop → Type 0
AreConstant before [] after = before ≡ after
AreConstant before (h ∷ hs) after = (c : ConstantLoop) × IsHeadOf (box_of before) h c.loop × CannotWrap (box_of before) c.loop × AreConstant (c ∷ before) hs after

-- where the variables of loops have these values, the whole number that a form gives is none of a dimension
pub record LeavesAt (box : List Side) (n : ℕ) (f : Affine) (s : State) : Type 0 where
  pub counters : Variable → ℤ
  pub turn : AtTurn box counters s
  pub leaves : IsIndex n (value f counters) → ⊥

-- where all loops round a subscript have constant bounds, and its form leaves its dimension somewhere in their box, it does so at one of their iterations
abbrev pub LeavingHasATurn : Type 0
LeavingHasATurn =
    (hs : List Loop) (cs : List ConstantLoop) (n : ℕ) (f : Affine) (s : State) (turns : List Vector) → AreConstant [] hs cs → LeavesDimension (box_of cs) n (Some f)
    → iterations hs s ≡ Some turns → (u : Vector) × Contains turns u × LeavesAt (box_of cs) n f (at_vector hs u s)
