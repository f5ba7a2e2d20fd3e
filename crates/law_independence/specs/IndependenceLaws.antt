-- Loops that the tests of pairs show to be independent have no conflicts. (C11 5.1.2.4, 4; OpenMP 5.2, 1.4.1 and 11.5)
use Rattle.std.specs.Prelude.{ℕ, ◌≡◌, ℤ, List, [], length, map, Contains, Some, IsSome}
use Rattle.semantics.specs.Tree.{Stmt, Declaration}
use Rattle.semantics.specs.Meaning.State.{State}
use Rattle.semantics.specs.Loops.Nest.{Loop, Vector, nest_of, iterations}
use Rattle.semantics.specs.Loops.Access.{Conflict}
use Rattle.semantics.specs.Loops.Piece.{SharedLoop}
use Rattle.semantics.specs.Theorems.{IsIndependent}
use Rattle.nest_loop.specs.Turn.{AtTurn}
use Rattle.pairtest_counter.specs.Levels.{Nesting, AreLevels, IsTurn, values_at}
use Rattle.nest.specs.Nests.{Has, StaysInside}
use Rattle.pairtest_access.specs.Found.{inner_loops}
use Rattle.deptest_verdict.specs.Shown.{IsShownBody, IsShownLoop, no_loops}
use Rattle.law_turns.specs.Turns.{AreEntered}
use Rattle.law_independence.specs.Inside.{LoopsAreRead, HaveShort}

-- a nest inside serial loops, and the facts of its body that the grammar and the range check give
pub record IsNestOf (ds : List Declaration) (round : Nesting) (loops : List Loop) (now : Nesting) (body : Stmt) : Type 0 where
  pub short : HaveShort ds
  pub levels : AreLevels round.box round.levels
  pub entered : AreEntered round loops now
  pub read : LoopsAreRead now.box body
  pub stays : Has (StaysInside ds) now.box body

-- at each turn of the serial loops, no two iterations of a nest whose body is shown to be independent conflict
abbrev pub ShownBodiesAreIndependent : Type 0
ShownBodiesAreIndependent =
    (ds : List Declaration) (round now : Nesting) (loops : List Loop) (body : Stmt) (steps : ℕ → ℤ) (outer : State) (us : List Vector) (u v : Vector)
    → IsNestOf ds round loops now body → IsShownBody now (length round.levels) (map (λ l. l.most) (inner_loops 0 round.levels)) [] body
    → IsTurn round.levels steps → AtTurn round.box (values_at round.levels steps) outer
    → iterations loops outer ≡ Some us → Contains us u → Contains us v → ¬ (Conflict loops body outer u v)

-- a statement is a nest of so many loops, and at no turn of the serial loops round it two of its iterations conflict
abbrev pub IsIndependentNest : List Loop → ℕ → Stmt → Type 0
IsIndependentNest serial n s = IsSome (nest_of n s) × ((loop : SharedLoop) → nest_of n s ≡ Some (loop.loops, loop.body) → IsIndependent serial loop)

-- a parallel loop that is shown to be independent, inside serial loops of the text, is independent
abbrev pub ShownLoopsAreIndependent : Type 0
ShownLoopsAreIndependent =
    (ds : List Declaration) (serial : List Loop) (round : Nesting) (n : ℕ) (s : Stmt)
    → HaveShort ds → AreEntered no_loops serial round → LoopsAreRead round.box s → Has (StaysInside ds) round.box s → IsShownLoop round [] n s
    → IsIndependentNest serial n s
