-- How canonical loops run where the variables round them have given values. (OpenMP 5.2, 4.4.1 and 4.4.2)
use Rattle.std.specs.Prelude.{◌≡◌, ◌==◌, ◌≤◌, ◌^◌, ℤ, pos, List, [], ◌∷◌, if◌then◌else◌}
use Rattle.semantics.specs.Tree.{Variable}
use Rattle.affine.specs.Affine.{value}
use Rattle.nest_loop.specs.declared.head.Canonical.{Canonical}
use Rattle.nest_loop.specs.Sides.{IsCount, Stays, end_of}
use Rattle.nest_space.specs.declared.bounds.Value.{Value}
use Rattle.nest_space.specs.Space.{Turns}

-- the values of variables: that of the first entry that names one, and 0 where none does
abbrev pub given : List Value → Variable → ℤ
given [] x = pos 0
given (v ∷ vs) x = if v.variable.0 == x then pos v.value else given vs x

-- each value is at most 2^33
abbrev pub AreModest : List Value → Type 0
AreModest [] = Unit {0}
AreModest (v ∷ vs) = (v.value ≤ 2 ^ 33) × AreModest vs

-- a loop that stays, and how it runs there: from its start on, and as often as its variable does not pass its end
pub record IsRunOf (l : Canonical) (values : Variable → ℤ) (t : Turns) : Type 0 where
  pub stays : Stays l values
  pub least : 1 ≤ l.stride.by
  pub stride : t.stride ≡ l.stride
  pub first : value l.start values ≡ pos t.first
  pub count : IsCount l.stride (value l.start values) (value (end_of l) values) t.count

-- each loop so
abbrev pub AreRunsOf : List Canonical → (Variable → ℤ) → List Turns → Type 0
AreRunsOf [] values [] = Unit {0}
AreRunsOf [] values (t ∷ ts) = ⊥
AreRunsOf (l ∷ ls) values [] = ⊥
AreRunsOf (l ∷ ls) values (t ∷ ts) = IsRunOf l values t × AreRunsOf ls values ts
