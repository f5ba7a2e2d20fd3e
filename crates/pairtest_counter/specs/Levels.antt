-- Loops inside each other: what holds of each, and the values of their variables after some steps. (OpenMP 5.2, 4.4.1 and 4.4.2)
use Rattle.std.specs.Prelude.{ℕ, ◌≡◌, ◌≤◌, ℤ, pos, ◌+ℤ◌, ◌*ℤ◌, ◌≤ℤ◌, List, [], ◌∷◌, length}
use Rattle.semantics.specs.Tree.{Variable, Stmt}
use Rattle.ktree.specs.View.{source_of, cond_of, increment_of}
use Rattle.ktree.specs.declared.statement.Head.{Head}
use Rattle.affine.specs.declared.interval.Interval.{Interval}
use Rattle.affine.specs.declared.interval.Side.{Side}
use Rattle.affine.specs.Affine.{value, with_value}
use Rattle.affine.specs.Box.{side}
use Rattle.nest_loop.specs.Sides.{CannotWrap, IsSide}
use Rattle.nest_loop.specs.Loops.{IsLoop, inside}
use Rattle.nest_loop.specs.Most.{distance, IsMost}
use Rattle.nest_loop.specs.declared.entered.LoopFacts.{LoopFacts}
use Rattle.nest_loop.specs.Facts.{AreFactsOf}
use Rattle.pairtest_counter.specs.declared.level.EnclosingLoop.{EnclosingLoop}
use Rattle.pairtest_counter.specs.declared.level.Inner.{Inner}
use Rattle.pairtest_counter.specs.Counters.{step_by, Given, AreForms}

-- some loops inside each other, the innermost first: the numbers that their variables may have, and the loops
pub record Nesting : Type 0 where
  pub box : List Side
  pub levels : List EnclosingLoop

-- a loop inside others never wraps, its variable has these numbers, it turns so often at most, and it has these forms in the counters
pub record IsLevel (box : List Side) (outer : List EnclosingLoop) (s : Side) (v : EnclosingLoop) : Type 0 where
  pub numbers : Interval
  pub are : IsSide box v.canonical numbers
  pub is : s ≡ side v.canonical.variable.0 numbers.least numbers.greatest
  pub by_one : 1 ≤ v.canonical.stride.by
  pub stays : CannotWrap box v.canonical
  pub most : IsMost box v.canonical v.most
  pub forms : Given (AreForms outer v.canonical) v.forms

-- so each loop of some
abbrev pub AreLevels : List Side → List EnclosingLoop → Type 0
AreLevels [] [] = Unit {0}
AreLevels [] (v ∷ vs) = ⊥
AreLevels (s ∷ ss) [] = ⊥
AreLevels (s ∷ ss) (v ∷ vs) = IsLevel ss vs s v × AreLevels ss vs

-- a loop with this head has these facts, whatever it runs
abbrev pub IsLoopWith : List Side → Head → LoopFacts → Type 0
IsLoopWith box head facts = (body : Stmt) × AreFactsOf box head body facts

-- the loop of a head inside others: how often it turns at most, and its forms in the counters
pub record IsInner (n : Nesting) (head : Head) (body : Stmt) (v : Inner) : Type 0 where
  pub is : IsLoop n.box head.variable.0 (source_of head.start) (cond_of head.test) (increment_of head.step) body v.level.canonical v.numbers
  pub most : IsMost n.box v.level.canonical v.level.most
  pub forms : Given (AreForms n.levels v.level.canonical) v.level.forms

-- so it is of the loop that has these facts
abbrev pub IsInnerWith : Nesting → Head → LoopFacts → Inner → Type 0
IsInnerWith n head facts v = (body : Stmt) → AreFactsOf n.box head body facts → IsInner n head body v

-- loops inside each other and one more inside these
abbrev pub with_inner : Nesting → Inner → Nesting
with_inner n v = record { box = inside n.box v.level.canonical.variable.0 v.numbers; levels = v.level ∷ n.levels }

-- a loop of the text was entered, inside those before
abbrev pub Enters : Nesting → Nesting → Head → Stmt → Type 0
Enters before after head body =
    (v : EnclosingLoop) × (i : Interval)
    × IsLoop before.box head.variable.0 (source_of head.start) (cond_of head.test) (increment_of head.step) body v.canonical i
    × (after ≡ record { box = inside before.box head.variable.0 i; levels = v ∷ before.levels })

-- the loop that has these facts was
abbrev pub EntersWith : Nesting → Nesting → Head → LoopFacts → Type 0
EntersWith before after head facts = (body : Stmt) → AreFactsOf before.box head body facts → Enters before after head body

-- the values of the variables of loops inside each other after so many steps of each, the loops counted from 0 and the outermost first; every other variable is 0
abbrev pub values_at : List EnclosingLoop → (ℕ → ℤ) → Variable → ℤ
values_at [] steps = λ x. pos 0
values_at (v ∷ vs) steps =
    with_value (values_at vs steps) v.canonical.variable.0
    (value v.canonical.start (values_at vs steps) +ℤ step_by v.canonical.stride.direction v.canonical.stride.by *ℤ steps (length vs))

-- a turn of loops inside each other: so many steps of each loop stay within its reach
abbrev pub IsTurn : List EnclosingLoop → (ℕ → ℤ) → Type 0
IsTurn [] steps = Unit {0}
IsTurn (v ∷ vs) steps =
    (pos 0 ≤ℤ steps (length vs)) × ((pos v.canonical.stride.by *ℤ steps (length vs)) ≤ℤ distance v.canonical (values_at vs steps)) × IsTurn vs steps
