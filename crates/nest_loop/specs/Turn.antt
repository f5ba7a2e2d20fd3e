-- A turn of the loops round a place: the values of their variables.
use Rattle.std.specs.Prelude.{ℕ, ◌≡◌, ◌<◌, ◌^◌, true, ℤ, pos, List}
use Rattle.semantics.specs.Tree.{Variable}
use Rattle.semantics.specs.Meaning.State.{State, Slot, Holds}
use Rattle.affine.specs.declared.interval.Side.{Side}
use Rattle.affine.specs.Box.{IsInside}
use Rattle.affine_expr.specs.Forms.{is_counter}

-- a local holds this whole number
pub record HoldsValue (slot : Slot) (z : ℤ) : Type 0 where
  pub number : ℕ
  pub held : slot ≡ Holds number
  pub is : z ≡ pos number
  pub below : number < 2 ^ 64

-- the variables of the loops of a box have these values
abbrev pub HoldCounters : List Side → (Variable → ℤ) → State → Type 0
HoldCounters box values s = (x : Variable) → is_counter box x ≡ true → HoldsValue (s.locals x) (values x)

-- the variables of the loops round a place have these values, which are in the box
pub record AtTurn (box : List Side) (values : Variable → ℤ) (s : State) : Type 0 where
  pub inside : IsInside box values
  pub counters : HoldCounters box values s
