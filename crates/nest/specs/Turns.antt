-- The turns of loops with constant bounds, and that the range check is exact inside them. (C11 6.5.6, 8)
use Rattle.std.specs.Prelude.{ℕ, ◌≡◌, ◌≤◌, ◌<◌, ◌↔◌, false, ℤ, pos, ◌≤ℤ◌, ◌<ℤ◌, List, [], ◌∷◌, Some}
use Rattle.semantics.specs.Tree.{Variable, Source, Cond, Increment, Stmt}
use Rattle.affine.specs.declared.interval.Interval.{Interval}
use Rattle.affine.specs.declared.interval.Side.{Side}
use Rattle.affine.specs.Affine.{Affine, value}
use Rattle.affine_expr.specs.Forms.{is_counter}
use Rattle.nest_loop.specs.declared.head.Canonical.{Canonical}
use Rattle.nest_loop.specs.Sides.{HasNumbers, IsCount, after_steps, end_of, walked}
use Rattle.nest_loop.specs.Loops.{IsLoop, inside}
use Rattle.nest.specs.Nests.{StaysBelow}

-- a loop whose bounds are numbers and whose step is 1 at least, and how often it turns
pub record ConstantLoop : Type 0 where
  pub loop : Canonical
  pub numbers : HasNumbers loop
  pub by_one : 1 ≤ loop.stride.by
  pub count : ℕ
  pub counted : IsCount loop.stride loop.start.constant (end_of loop).constant count

-- its variable
abbrev pub variable_of : ConstantLoop → Variable
variable_of c = c.loop.variable.0

-- the numbers from its first to its last
abbrev pub numbers_of : ConstantLoop → Interval
numbers_of c = walked c.loop.stride.direction c.loop.stride.by c.loop.start.constant c.count

-- the box of loops inside each other, the innermost first
abbrev pub box_of : List ConstantLoop → List Side
box_of [] = []
box_of (c ∷ cs) = inside (box_of cs) (variable_of c) (numbers_of c)

-- no loop has the variable of one round it
abbrev pub AreApart : List ConstantLoop → Type 0
AreApart [] = Unit {0}
AreApart (c ∷ cs) = (is_counter (box_of cs) (variable_of c) ≡ false) × AreApart cs

-- a loop's variable has this value in one of its turns
abbrev pub IsTaken : ConstantLoop → ℤ → Type 0
IsTaken c v = (k : ℕ) × (k < c.count) × (v ≡ after_steps c.loop.stride c.loop.start.constant k)

-- so has that of each loop
abbrev pub AreTaken : List ConstantLoop → (Variable → ℤ) → Type 0
AreTaken [] values = Unit {0}
AreTaken (c ∷ cs) values = IsTaken c (values (variable_of c)) × AreTaken cs values

-- a turn of loops inside each other: each variable of theirs has a value of one of its turns, and every other is 0
pub record IsTurn (loops : List ConstantLoop) (values : Variable → ℤ) : Type 0 where
  pub taken : AreTaken loops values
  pub others : (x : Variable) → is_counter (box_of loops) x ≡ false → values x ≡ pos 0

-- a number is one of a dimension
abbrev pub IsIndex : ℕ → ℤ → Type 0
IsIndex n m = (pos 0 ≤ℤ m) × (m <ℤ pos n)

-- at every turn, guards ignored, a form gives a number of a dimension
abbrev pub StaysAtTurns : List ConstantLoop → ℕ → Affine → Type 0
StaysAtTurns loops n f = (values : Variable → ℤ) → IsTurn loops values → IsIndex n (value f values)

-- at this turn it does not
pub record LeavesAtTurn (loops : List ConstantLoop) (n : ℕ) (f : Affine) : Type 0 where
  pub values : Variable → ℤ
  pub turn : IsTurn loops values
  pub leaves : IsIndex n (value f values) → ⊥

-- where all loops round a subscript have constant bounds, it is in range over their box exactly where it is at every turn
abbrev pub RangesAreExact : Type 0
RangesAreExact = (loops : List ConstantLoop) (n : ℕ) (f : Affine) → AreApart loops → StaysBelow (box_of loops) n (Some f) ↔ StaysAtTurns loops n f

-- where it is not, there is a turn at which it leaves its dimension
abbrev pub RefusalsHaveTurns : Type 0
RefusalsHaveTurns = (loops : List ConstantLoop) (n : ℕ) (f : Affine) → AreApart loops → (StaysBelow (box_of loops) n (Some f) → ⊥) → LeavesAtTurn loops n f

-- a loop that the walk over a kernel goes into inside such a box, and whose bounds are numbers, makes such a box
abbrev pub ConstantLoopsMakeBoxes : Type 0
ConstantLoopsMakeBoxes =
    (loops : List ConstantLoop) (x : Variable) (start : Source) (test : Cond) (step : Increment) (body : Stmt) (l : Canonical) (i : Interval)
    → IsLoop (box_of loops) x start test step body l i → HasNumbers l → (c : ConstantLoop) × (c.loop ≡ l) × (inside (box_of loops) x i ≡ box_of (c ∷ loops))
