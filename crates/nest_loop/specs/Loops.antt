-- A loop inside others that is as the rules have it. (OpenMP 5.2, 4.4.1)
use Rattle.std.specs.Prelude.{◌≡◌, ◌<◌, false, List, ◌∷◌, length, Some}
use Rattle.semantics.specs.Tree.{Variable, Cond, Source, Increment, Stmt}
use Rattle.affine.specs.declared.interval.Interval.{Interval}
use Rattle.affine.specs.declared.interval.Side.{Side}
use Rattle.affine.specs.Box.{side}
use Rattle.nest_loop.specs.declared.head.Canonical.{Canonical}
use Rattle.nest_loop.specs.Canonical.{canonical, assigns}
use Rattle.nest_loop.specs.Sides.{CannotWrap, IsSide}

-- a loop inside those of a box: one of at most 8, canonical, never wrapping, with these numbers for its variable, which its body does not assign
pub record IsLoop (box : List Side) (x : Variable) (start : Source) (test : Cond) (step : Increment) (body : Stmt) (l : Canonical) (i : Interval) : Type 0 where
  pub few : length box < 8
  pub form : canonical box x start test step ≡ Some l
  pub stays : CannotWrap box l
  pub numbers : IsSide box l i
  pub kept : assigns x body ≡ false

-- inside one loop more
abbrev pub inside : List Side → Variable → Interval → List Side
inside box x i = side x i.least i.greatest ∷ box
