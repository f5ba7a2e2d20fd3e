-- Loops between numbers, which have the same space wherever they are reached. (OpenMP 5.2, 4.4.2 and 15.9.6)
use Rattle.std.specs.Prelude.{List, [], All}
use Rattle.nest_loop.specs.declared.head.Canonical.{Canonical}
use Rattle.nest_loop.specs.Sides.{HasNumbers}
use Rattle.nest_space.specs.Space.{Turns, IsSpace}
use Rattle.nest_space.specs.Nests.{given, AreRunsOf}
use Rattle.nest_space.specs.Rises.{HeadsRise}

-- each loop runs between two numbers
abbrev pub HaveNumbers : List Canonical → Type 0
HaveNumbers ls = All HasNumbers ls

-- each rises between two numbers, and they have a space
pub record AreFixed (ls : List Canonical) : Type 0 where
  pub rise : HeadsRise ls
  pub numbers : HaveNumbers ls
  pub there : ((ts : List Turns) → AreRunsOf ls (given []) ts → IsSpace ts → ⊥) → ⊥
