-- Boxes: the values that variables may have.
use Rattle.std.specs.Prelude.{◌≡◌, ◌≤◌, ◌^◌, ◌==◌, ℤ, pos, ◌≤ℤ◌, ◌<ℤ◌, List, [], ◌∷◌, unsigned_abs, int_lt, if◌then◌else◌}
use Rattle.semantics.specs.Tree.{Variable}
use Rattle.affine.specs.declared.interval.Interval.{Interval}
use Rattle.affine.specs.declared.interval.Side.{Side}
use Rattle.affine.specs.Affine.{Affine, value}

-- from 0 to 0
abbrev pub only_zero : Interval
only_zero = record { least = pos 0; greatest = pos 0 }

-- the values of a variable: those of the first side that names it; a variable that none names is 0
abbrev pub interval_at : List Side → Variable → Interval
interval_at [] x = only_zero
interval_at (s ∷ ss) x = if s.variable.0 == x then s.interval else interval_at ss x

-- a side, by its variable and its ends
abbrev pub side : Variable → ℤ → ℤ → Side
side x least greatest =
    record { variable = record { 0 = x }; interval = record { least = least; greatest = greatest } }

-- the end of an interval at which the product with this factor is least
abbrev pub least_end : ℤ → Interval → ℤ
least_end factor interval = if int_lt factor (pos 0) then interval.greatest else interval.least

-- the end at which it is greatest
abbrev pub greatest_end : ℤ → Interval → ℤ
greatest_end factor interval = if int_lt factor (pos 0) then interval.least else interval.greatest

-- a number is one of an interval's
pub record Holds (interval : Interval) (n : ℤ) : Type 0 where
  pub above : interval.least ≤ℤ n
  pub below : n ≤ℤ interval.greatest

-- each variable has a value of its interval
abbrev pub IsInside : List Side → (Variable → ℤ) → Type 0
IsInside box values = (x : Variable) → Holds (interval_at box x) (values x)

-- an interval has no number
abbrev pub HasNone : Interval → Type 0
HasNone interval = interval.greatest <ℤ interval.least

-- some variable has no value
abbrev pub IsEmpty : List Side → Type 0
IsEmpty box = (x : Variable) × HasNone (interval_at box x)

-- an interval's ends are within 2^33
pub record EndsFit (least greatest : ℤ) : Type 0 where
  pub least_within : unsigned_abs least ≤ 2 ^ 33
  pub greatest_within : unsigned_abs greatest ≤ 2 ^ 33

-- a side of a box as the code holds it
abbrev pub SideFits : Side → Type 0
SideFits s = EndsFit s.interval.least s.interval.greatest

-- a form has this value somewhere in a box
pub record Reaches (form : Affine) (box : List Side) (n : ℤ) : Type 0 where
  pub values : Variable → ℤ
  pub inside : IsInside box values
  pub gives : value form values ≡ n

-- the least and the greatest value of a form over a box
pub record IsRange (form : Affine) (box : List Side) (least greatest : ℤ) : Type 0 where
  pub within : (values : Variable → ℤ) → IsInside box values → (least ≤ℤ value form values) × (value form values ≤ℤ greatest)
  pub least_reached : Reaches form box least
  pub greatest_reached : Reaches form box greatest
