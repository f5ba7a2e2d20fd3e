-- Nests where the loops inside one that never turns are never reached. (OpenMP 5.2, 4.4.2)
use Rattle.std.specs.Prelude.{◌≡◌, ◌<◌, ℤ, List, [], ◌∷◌, length}
use Rattle.semantics.specs.Tree.{Variable}
use Rattle.nest_loop.specs.declared.head.Canonical.{Canonical}
use Rattle.nest_space.specs.Space.{Turns}
use Rattle.nest_space.specs.Nests.{IsRunOf}

-- each loop runs so up to the first that never turns; of those inside it nothing is said
abbrev pub AreRunsReached : List Canonical → (Variable → ℤ) → List Turns → Type 0
AreRunsReached [] values [] = Unit {0}
AreRunsReached [] values (t ∷ ts) = ⊥
AreRunsReached (l ∷ ls) values [] = ⊥
AreRunsReached (l ∷ ls) values (t ∷ ts) = IsRunOf l values t × (length ts ≡ length ls) × (0 < t.count → AreRunsReached ls values ts)
