-- Loops of the text inside each other, and their iterations by counters, each of which counts the steps of its loop from 0. (OpenMP 5.2, 4.4.2)
use Rattle.std.specs.Prelude.{ℕ, ◌≡◌, ◌<◌, ◌≤◌, ℤ, pos, ◌*ℤ◌, ◌≤ℤ◌, List, [], ◌∷◌, length, map}
use Rattle.semantics.specs.Meaning.State.{State}
use Rattle.semantics.specs.Loops.Nest.{Loop, Vector, at_vector}
use Rattle.ktree.specs.View.{source_of, cond_of, increment_of}
use Rattle.ktree.specs.declared.statement.Head.{Head}
use Rattle.affine.specs.declared.interval.Side.{Side}
use Rattle.nest_loop.specs.Most.{distance}
use Rattle.nest_loop.specs.Turn.{AtTurn}
use Rattle.pairtest_counter.specs.declared.level.EnclosingLoop.{EnclosingLoop}
use Rattle.pairtest_counter.specs.Levels.{Nesting, IsLevel, IsTurn, values_at}
use Rattle.nest_space.specs.Heads.{IsHeadOf}

-- loops of the text, the outermost first, were entered one after another: each is a canonical loop inside those before it, whose variable is none of theirs
abbrev pub AreEntered : Nesting → List Loop → Nesting → Type 0
AreEntered before [] after = before ≡ after
AreEntered before (h ∷ hs) after =
    (s : Side) × (v : EnclosingLoop)
    × IsHeadOf before.box h v.canonical
    × IsLevel before.box before.levels s v
    × AreEntered (record { box = s ∷ before.box; levels = v ∷ before.levels }) hs after

-- the loop of a head
abbrev pub loop_of : Head → Loop
loop_of head = record { variable = head.variable.0; start = source_of head.start; test = cond_of head.test; step = increment_of head.step }

-- so much holds of each loop inside the outermost n
abbrev pub EachInside : (EnclosingLoop → List EnclosingLoop → Type 0) → ℕ → List EnclosingLoop → Type 0
EachInside P n [] = Unit {0}
EachInside P n (v ∷ vs) = (n ≤ length vs → P v vs) × EachInside P n vs

-- so many steps of a loop inside others stay within its reach
abbrev pub IsWithin : (ℕ → ℤ) → EnclosingLoop → List EnclosingLoop → Type 0
IsWithin steps v vs =
    (pos 0 ≤ℤ steps (length vs)) × ((pos v.canonical.stride.by *ℤ steps (length vs)) ≤ℤ distance v.canonical (values_at vs steps))

-- so those of each loop inside the outermost n
abbrev pub IsTurnInside : ℕ → List EnclosingLoop → (ℕ → ℤ) → Type 0
IsTurnInside n levels steps = EachInside (IsWithin steps) n levels

-- a whole number is one of 0 .. n - 1
abbrev pub IsCounter : ℕ → ℤ → Type 0
IsCounter n z = (k : ℕ) × (z ≡ pos k) × (k < n)

-- each loop inside the outermost n has made fewer steps than it turns at most
abbrev pub AreCounters : ℕ → List EnclosingLoop → (ℕ → ℤ) → Type 0
AreCounters n levels steps = EachInside (λ v vs. IsCounter v.most (steps (length vs))) n levels

-- an iteration of loops that were entered is the turn of so many steps, those of the loops before being as they were: its values are those of the loops' variables
pub record IsIteration (before after : Nesting) (hs : List Loop) (outer : ℕ → ℤ) (s : State) (u : Vector) (steps : ℕ → ℤ) : Type 0 where
  pub outer_same : (j : ℕ) → j < length before.levels → steps j ≡ outer j
  pub turn : IsTurnInside (length before.levels) after.levels steps
  pub whole : IsTurn before.levels outer → IsTurn after.levels steps
  pub few : AreCounters (length before.levels) after.levels steps
  pub at : AtTurn after.box (values_at after.levels steps) (at_vector hs u s)
  pub values : map pos u ≡ map (λ h. values_at after.levels steps h.variable) hs
