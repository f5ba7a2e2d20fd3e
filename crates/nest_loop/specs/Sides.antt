-- How far a loop's variable goes, how often, and that it does not wrap. (OpenMP 5.2, 4.4.2)
use Rattle.std.specs.Prelude.{ℕ, ◌≡◌, ◌<◌, ◌^◌, ◌*◌, ◌↔◌, ℤ, pos, negsuc, ◌+ℤ◌, ◌-ℤ◌, ◌≤ℤ◌, List, []}
use Rattle.semantics.specs.Tree.{Variable}
use Rattle.affine.specs.declared.interval.Interval.{Interval}
use Rattle.affine.specs.declared.interval.Side.{Side}
use Rattle.affine.specs.Affine.{Affine, value}
use Rattle.affine.specs.Box.{IsInside, IsEmpty, IsRange}
use Rattle.nest_loop.specs.declared.stride.Direction.{Direction}
use Rattle.nest_loop.specs.declared.stride.Direction.TheVariants.{Rising, Falling}
use Rattle.nest_loop.specs.declared.stride.Stride.{Stride}
use Rattle.nest_loop.specs.declared.stride.Bound.{Bound}
use Rattle.nest_loop.specs.declared.stride.Bound.TheVariants.{Strict, Inclusive, Unequal}
use Rattle.nest_loop.specs.declared.head.Canonical.{Canonical}

-- so many numbers further on
abbrev pub moved : Direction → ℤ → ℕ → ℤ
moved Rising from n = from +ℤ pos n
moved Falling from n = from -ℤ pos n

-- the variable's values: from the first on, so many steps
abbrev pub after_steps : Stride → ℤ → ℕ → ℤ
after_steps s first k = moved s.direction first (s.by * k)

-- how far the end lies from what the variable is compared with
abbrev pub end_shift : Direction → Bound → ℤ
end_shift d Inclusive = pos 0
end_shift Rising Strict = negsuc 0
end_shift Rising Unequal = negsuc 0
end_shift Falling Strict = pos 1
end_shift Falling Unequal = pos 1

-- the last number that the variable may have: `ub`, or one before it
abbrev pub end_of : Canonical → Affine
end_of l = record { constant = l.limit.constant +ℤ end_shift l.stride.direction l.bound; terms = l.limit.terms }

-- the variable has not passed the end
abbrev pub IsBefore : Direction → ℤ → ℤ → Type 0
IsBefore Rising v end = v ≤ℤ end
IsBefore Falling v end = end ≤ℤ v

-- how many turns the loop makes: so many steps from the first value on do not pass the end
pub record IsCount (s : Stride) (first end : ℤ) (n : ℕ) : Type 0 where
  pub counts : (k : ℕ) → (k < n) ↔ IsBefore s.direction (after_steps s first k) end

-- what a test asks for beyond the range of its bounds, so that the variable does not wrap
abbrev pub Room : Direction → Bound → ℕ → ℤ → ℤ → Type 0
Room Rising Strict s lb ub = Unit {0}
Room Rising Inclusive s lb ub = Unit {0}
Room Rising Unequal s lb ub = lb ≤ℤ ub
Room Falling Strict s lb ub = pos s ≤ℤ (ub +ℤ pos 1)
Room Falling Inclusive s lb ub = pos s ≤ℤ ub
Room Falling Unequal s lb ub = ub ≤ℤ lb

-- a number of 0..2^32
pub record IsModest (n : ℤ) : Type 0 where
  pub above : pos 0 ≤ℤ n
  pub below : n ≤ℤ pos (2 ^ 32)

-- where the variables round the loop have these values, it does not wrap, however often it turns
pub record Stays (l : Canonical) (values : Variable → ℤ) : Type 0 where
  pub start : IsModest (value l.start values)
  pub limit : IsModest (value l.limit values)
  pub room : Room l.stride.direction l.bound l.stride.by (value l.start values) (value l.limit values)

-- nowhere in a box
abbrev pub CannotWrap : List Side → Canonical → Type 0
CannotWrap box l = (values : Variable → ℤ) → IsInside box values → Stays l values

-- both bounds are numbers
pub record HasNumbers (l : Canonical) : Type 0 where
  pub start : l.start.terms ≡ []
  pub limit : l.limit.terms ≡ []

-- from the first value to the last of n
abbrev pub walked : Direction → ℕ → ℤ → ℕ → Interval
walked Rising by first n = record { least = first; greatest = (first +ℤ pos (by * n)) -ℤ pos by }
walked Falling by first n = record { least = (first -ℤ pos (by * n)) +ℤ pos by; greatest = first }

-- from the least start to the greatest end, and falling from the least end to the greatest start
abbrev pub spanned : Direction → ℤ → ℤ → ℤ → ℤ → Interval
spanned Rising start_least start_greatest end_least end_greatest = record { least = start_least; greatest = end_greatest }
spanned Falling start_least start_greatest end_least end_greatest = record { least = end_least; greatest = start_greatest }

-- no number at all
abbrev pub no_values : Interval
no_values = record { least = pos 0; greatest = negsuc 0 }

-- the numbers that a loop's variable may have, inside the loops of a box: from the first to the last where both bounds are numbers, and else by the range of the bounds over the box
pub data IsSide (box : List Side) (l : Canonical) : Interval → Type 0 where
  exact : {n : ℕ} → HasNumbers l → IsCount l.stride l.start.constant (end_of l).constant n → IsSide box l (walked l.stride.direction l.stride.by l.start.constant n)
  by_range : {a b c d : ℤ} → (HasNumbers l → ⊥) → IsRange l.start box a b → IsRange (end_of l) box c d → IsSide box l (spanned l.stride.direction a b c d)
  never : (HasNumbers l → ⊥) → IsEmpty box → IsSide box l no_values
