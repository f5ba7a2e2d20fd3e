-- How often a loop turns at most, inside the loops of a box. (OpenMP 5.2, 4.4.2)
use Rattle.std.specs.Prelude.{ℕ, ◌≤◌, ◌<◌, ◌*◌, ◌↔◌, ℤ, pos, ◌-ℤ◌, ◌≤ℤ◌, List}
use Rattle.semantics.specs.Tree.{Variable}
use Rattle.affine.specs.declared.interval.Side.{Side}
use Rattle.affine.specs.Affine.{value}
use Rattle.affine.specs.Box.{IsInside, IsEmpty}
use Rattle.nest_loop.specs.declared.stride.Direction.{Direction}
use Rattle.nest_loop.specs.declared.stride.Direction.TheVariants.{Rising, Falling}
use Rattle.nest_loop.specs.declared.head.Canonical.{Canonical}
use Rattle.nest_loop.specs.Sides.{IsCount, end_of}

-- how far one number lies behind another, on the way of a loop
abbrev pub way : Direction → ℤ → ℤ → ℤ
way Rising first end = end -ℤ first
way Falling first end = first -ℤ end

-- how far a loop's end lies behind its start, where the variables round it have these values
abbrev pub distance : Canonical → (Variable → ℤ) → ℤ
distance l values = way l.stride.direction (value l.start values) (value (end_of l) values)

-- so many steps stay within a distance, the first turn being one
abbrev pub AreWithin : ℕ → ℤ → ℕ → Type 0
AreWithin by distance n = (k : ℕ) → (k < n) ↔ (pos (by * k) ≤ℤ distance)

-- a loop turns so often, where the variables round it have these values
abbrev pub TurnsAt : Canonical → (Variable → ℤ) → ℕ → Type 0
TurnsAt l values n = IsCount l.stride (value l.start values) (value (end_of l) values) n

-- a loop turns so often somewhere in a box, and nowhere oftener; in an empty box never
pub data IsMost (box : List Side) (l : Canonical) : ℕ → Type 0 where
  somewhere : {n : ℕ} → (values : Variable → ℤ) → IsInside box values → TurnsAt l values n
      → ((others : Variable → ℤ) (m : ℕ) → IsInside box others → TurnsAt l others m → m ≤ n) → IsMost box l n
  nowhere : IsEmpty box → IsMost box l 0
