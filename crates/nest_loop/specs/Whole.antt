-- What is so of a form wherever in a box.
use Rattle.std.specs.Prelude.{ℕ, ◌≡◌, ◌≤◌, ◌<◌, ◌*◌, ◌↔◌, ℤ, pos, ◌-ℤ◌, ◌≤ℤ◌, List, Some}
use Rattle.semantics.specs.Tree.{Variable}
use Rattle.affine.specs.declared.interval.Side.{Side}
use Rattle.affine.specs.Affine.{Affine, value}
use Rattle.affine.specs.Box.{IsInside}
use Rattle.affine_expr.specs.Forms.{kept}
use Rattle.nest_loop.specs.declared.head.Canonical.{Canonical}
use Rattle.nest_loop.specs.Sides.{IsModest, Room, IsCount, walked}
use Rattle.nest_loop.specs.declared.stride.Stride.{Stride}
use Rattle.affine.specs.declared.interval.Interval.{Interval}

-- it is at least a number
abbrev pub IsAtLeast : ℤ → Affine → List Side → Type 0
IsAtLeast n form box = (values : Variable → ℤ) → IsInside box values → n ≤ℤ value form values

-- it is at most a number
abbrev pub IsAtMost : ℤ → Affine → List Side → Type 0
IsAtMost n form box = (values : Variable → ℤ) → IsInside box values → value form values ≤ℤ n

-- one form is at most another
abbrev pub IsBelow : Affine → Affine → List Side → Type 0
IsBelow less greater box = (values : Variable → ℤ) → IsInside box values → value less values ≤ℤ value greater values

-- it is a number of 0..2^32
abbrev pub AreModest : Affine → List Side → Type 0
AreModest form box = (values : Variable → ℤ) → IsInside box values → IsModest (value form values)

-- the test's own demand is met
abbrev pub HasRoom : List Side → Canonical → Type 0
HasRoom box l = (values : Variable → ℤ) → IsInside box values → Room l.stride.direction l.bound l.stride.by (value l.start values) (value l.limit values)

-- a loop as a head makes it: it goes by 1 at least, and the numbers of its bounds keep the limit
pub record IsWell (l : Canonical) : Type 0 where
  pub by_one : 1 ≤ l.stride.by
  pub start : kept l.start ≡ Some l.start
  pub limit : kept l.limit ≡ Some l.limit

-- how far the last of some turns goes from the first, where the end lies so far
pub record IsSpan (by : ℕ) (distance : ℤ) (span : ℤ) : Type 0 where
  pub turns : ℕ
  pub counts : (k : ℕ) → (k < turns) ↔ (pos (by * k) ≤ℤ distance)
  pub is : span ≡ pos (by * turns) -ℤ pos by

-- the numbers from the first to the last of a loop between two numbers
pub record IsWalked (s : Stride) (first end : ℤ) (i : Interval) : Type 0 where
  pub turns : ℕ
  pub counts : IsCount s first end turns
  pub is : i ≡ walked s.direction s.by first turns
