-- The loops of the text that canonical loops stand for, and their iterations. (OpenMP 5.2, 4.4.2)
use Rattle.std.specs.Prelude.{ℕ, ◌≡◌, false, ℤ, List, [], ◌∷◌, Some}
use Rattle.semantics.specs.Tree.{Variable}
use Rattle.semantics.specs.Source.Token.{Token}
use Rattle.semantics.specs.Source.Scope.{Scope}
use Rattle.semantics.specs.Source.Statements.{ReadsIncrement}
use Rattle.semantics.specs.Meaning.State.{State}
use Rattle.semantics.specs.Loops.Nest.{Loop, iterations}
use Rattle.affine.specs.declared.interval.Side.{Side}
use Rattle.affine_expr.specs.Forms.{is_counter}
use Rattle.nest_loop.specs.Canonical.{canonical}
use Rattle.nest_loop.specs.declared.head.Canonical.{Canonical}
use Rattle.nest_loop.specs.Constants.{Each, IsSmall}
use Rattle.nest_loop.specs.Turn.{HoldCounters}
use Rattle.nest_space.specs.Space.{Turns, vectors}

-- a loop of the text, inside the loops of a box, is this canonical one, and its variable is none of theirs
pub record IsHeadOf (box : List Side) (h : Loop) (l : Canonical) : Type 0 where
  pub scope : Scope
  pub order : ℕ
  pub tokens : List Token
  pub small : Each IsSmall scope
  pub reads : ReadsIncrement scope order tokens h.step
  pub is : canonical box h.variable h.start h.test h.step ≡ Some l
  pub other : is_counter box h.variable ≡ false

-- each loop of a rectangular nest: its bounds mention only variables of the loops round the nest
abbrev pub AreHeadsOf : List Side → List Loop → List Canonical → Type 0
AreHeadsOf box [] [] = Unit {0}
AreHeadsOf box [] (l ∷ ls) = ⊥
AreHeadsOf box (h ∷ hs) [] = ⊥
AreHeadsOf box (h ∷ hs) (l ∷ ls) = IsHeadOf box h l × AreHeadsOf box hs ls

-- wherever the variables round a nest of these loops have these values, its iterations are the vectors of these turns, in order
abbrev pub HasIterations : List Canonical → (Variable → ℤ) → List Turns → Type 0
HasIterations ls values ts =
    (box : List Side) (hs : List Loop) (s : State) → HoldCounters box values s → AreHeadsOf box hs ls → iterations hs s ≡ Some (vectors ts)
