-- The laws of turns. (OpenMP 5.2, 4.4.2)
use Rattle.std.specs.Prelude.{ℕ, ◌≡◌, ◌≢◌, ◌<◌, ◌≤◌, ◌^◌, ◌↔◌, ◌++◌, ◌≤ℤ◌, ◌<ℤ◌, ℤ, pos, List, [], ◌∷◌, length, All, Contains, Some, IsSome}
use Rattle.std.specs.List.{AllPairs}
use Rattle.semantics.specs.Tree.{Expr, Stmt}
use Rattle.semantics.specs.Meaning.State.{State}
use Rattle.semantics.specs.Meaning.Value as meaning
use Rattle.semantics.specs.Loops.Nest.{Loop, Vector, iterations}
use Rattle.ktree.specs.View.{source_of, cond_of, increment_of}
use Rattle.ktree.specs.declared.statement.Head.{Head}
use Rattle.affine.specs.declared.interval.Side.{Side}
use Rattle.affine.specs.Affine.{Affine, value}
use Rattle.affine.specs.Box.{IsInside}
use Rattle.affine_expr.specs.Forms.{form_of}
use Rattle.nest_loop.specs.declared.head.Canonical.{Canonical}
use Rattle.nest_loop.specs.Canonical.{canonical}
use Rattle.nest_loop.specs.Most.{distance}
use Rattle.nest_loop.specs.Turn.{AtTurn}
use Rattle.pairtest_counter.specs.Counters.{InCounters, AreForms}
use Rattle.pairtest_counter.specs.declared.level.EnclosingLoop.{EnclosingLoop}
use Rattle.pairtest_counter.specs.declared.level.Forms.{Forms}
use Rattle.pairtest_counter.specs.Levels.{Nesting, AreLevels, Enters, IsTurn, values_at}
use Rattle.nest_space.specs.Heads.{IsHeadOf}
use Rattle.law_turns.specs.Turns.{AreEntered, loop_of, IsTurnInside, AreCounters, IsIteration}

-- a form in counters has, wherever the loops have made so many steps, the value of the form in the variables that it stands for, and its variables are the numbers of the loops
abbrev pub FormsInCountersAreSame : Type 0
FormsInCountersAreSame =
    (box : List Side) (levels : List EnclosingLoop) (f g : Affine) (steps : ℕ → ℤ) → AreLevels box levels → InCounters levels f g
    → (value g steps ≡ value f (values_at levels steps)) × All (λ t. t.variable.0 < length levels) g.terms

-- the reach of a loop is how far its end lies behind its start
abbrev pub ReachesAreDistances : Type 0
ReachesAreDistances =
    (box : List Side) (levels : List EnclosingLoop) (l : Canonical) (f : Forms) (steps : ℕ → ℤ) → AreLevels box levels → AreForms levels l f
    → value f.reach steps ≡ distance l (values_at levels steps)

-- at a turn each variable has a value of its interval, and each loop has made fewer steps than it turns at most
abbrev pub TurnsAreInside : Type 0
TurnsAreInside =
    (box : List Side) (levels : List EnclosingLoop) (steps : ℕ → ℤ) → AreLevels box levels → IsTurn levels steps
    → IsInside box (values_at levels steps) × AreCounters 0 levels steps

-- outside of all loops each state is at the one turn
abbrev pub OutsideIsATurn : Type 0
OutsideIsATurn = (steps : ℕ → ℤ) (s : State) → AtTurn [] (values_at [] steps) s

-- values and turns of loops are the same with the same steps of these loops
abbrev pub StepsTellTurns : Type 0
StepsTellTurns =
    (levels : List EnclosingLoop) (a b : ℕ → ℤ) → ((j : ℕ) → j < length levels → a j ≡ b j)
    → (values_at levels a ≡ values_at levels b) × (IsTurn levels a → IsTurn levels b)

-- a loop that was entered as a chain of loops enters it was entered, where its head is one of the text
abbrev pub ChainsEnter : Type 0
ChainsEnter =
    (before after : Nesting) (head : Head) (body : Stmt) → Enters before after head body → AreLevels after.box after.levels
    → ((l : Canonical) → canonical before.box head.variable.0 (source_of head.start) (cond_of head.test) (increment_of head.step) ≡ Some l → IsHeadOf before.box (loop_of head) l)
    → AreEntered before (loop_of head ∷ []) after

-- loops that were entered inside others that were entered are all entered
abbrev pub EnteredJoin : Type 0
EnteredJoin = (first second third : Nesting) (hs gs : List Loop) → AreEntered first hs second → AreEntered second gs third → AreEntered first (hs ++ gs) third

-- and they are loops inside each other
abbrev pub EnteredAreLevels : Type 0
EnteredAreLevels = (before after : Nesting) (hs : List Loop) → AreEntered before hs after → AreLevels before.box before.levels → AreLevels after.box after.levels

-- a turn of all loops is one of those before, and one of those that were entered
abbrev pub TurnsJoin : Type 0
TurnsJoin =
    (before after : Nesting) (hs : List Loop) (steps : ℕ → ℤ) → AreEntered before hs after
    → IsTurn after.levels steps ↔ (IsTurn before.levels steps × IsTurnInside (length before.levels) after.levels steps)

-- wherever the variables of the loops before have values of theirs, the loops that were entered have iterations
abbrev pub IterationsAreThere : Type 0
IterationsAreThere =
    (before after : Nesting) (hs : List Loop) (outer : ℕ → ℤ) (s : State) → AreEntered before hs after → AtTurn before.box (values_at before.levels outer) s
    → IsSome (iterations hs s)

-- each of the iterations is a turn
abbrev pub IterationsAreTurns : Type 0
IterationsAreTurns =
    (before after : Nesting) (hs : List Loop) (outer : ℕ → ℤ) (s : State) (us : List Vector) (u : Vector) → AreEntered before hs after → AtTurn before.box (values_at before.levels outer) s
    → iterations hs s ≡ Some us → Contains us u → (steps : ℕ → ℤ) × IsIteration before after hs outer s u steps

-- and each turn is one of the iterations
abbrev pub TurnsAreIterations : Type 0
TurnsAreIterations =
    (before after : Nesting) (hs : List Loop) (outer : ℕ → ℤ) (s : State) (us : List Vector) (steps : ℕ → ℤ) → AreEntered before hs after → AtTurn before.box (values_at before.levels outer) s
    → iterations hs s ≡ Some us → ((j : ℕ) → j < length before.levels → steps j ≡ outer j) → IsTurnInside (length before.levels) after.levels steps
    → (u : Vector) × Contains us u × IsIteration before after hs outer s u steps

-- no iteration stands twice
abbrev pub IterationsDiffer : Type 0
IterationsDiffer =
    (before after : Nesting) (hs : List Loop) (outer : ℕ → ℤ) (s : State) (us : List Vector) → AreEntered before hs after → AtTurn before.box (values_at before.levels outer) s
    → iterations hs s ≡ Some us → AllPairs (λ u v. u ≢ v) us

-- two iterations with the same steps of the loops that were entered are the same
abbrev pub StepsTellIterations : Type 0
StepsTellIterations =
    (before after : Nesting) (hs : List Loop) (outer : ℕ → ℤ) (s : State) (u v : Vector) (steps others : ℕ → ℤ)
    → IsIteration before after hs outer s u steps → IsIteration before after hs outer s v others
    → ((j : ℕ) → length before.levels ≤ j → j < length after.levels → steps j ≡ others j) → u ≡ v

-- and an iteration is one turn alone
abbrev pub IterationsTellSteps : Type 0
IterationsTellSteps =
    (before after : Nesting) (hs : List Loop) (outer : ℕ → ℤ) (s : State) (u : Vector) (steps others : ℕ → ℤ) → AreEntered before hs after
    → IsIteration before after hs outer s u steps → IsIteration before after hs outer s u others
    → (j : ℕ) → j < length after.levels → steps j ≡ others j

-- two that are different differ in the steps of some loop that was entered
abbrev pub IterationsDifferInSteps : Type 0
IterationsDifferInSteps =
    (before after : Nesting) (hs : List Loop) (outer : ℕ → ℤ) (s : State) (u v : Vector) (steps others : ℕ → ℤ)
    → IsIteration before after hs outer s u steps → IsIteration before after hs outer s v others → u ≢ v
    → (j : ℕ) × (length before.levels ≤ j) × (j < length after.levels) × (steps j ≢ others j)

-- at a turn an affine expression has the value of its form in counters, where that is a number of uint64_t (C11 6.2.5, 9)
abbrev pub ExpressionsHaveForms : Type 0
ExpressionsHaveForms =
    (nesting : Nesting) (steps : ℕ → ℤ) (s : State) (e : Expr) (f g : Affine) → AreLevels nesting.box nesting.levels → AtTurn nesting.box (values_at nesting.levels steps) s
    → form_of nesting.box e ≡ Some f → InCounters nesting.levels f g
    → pos 0 ≤ℤ value f (values_at nesting.levels steps) → value f (values_at nesting.levels steps) <ℤ pos (2 ^ 64)
    → (n : ℕ) × (meaning.value s e ≡ Some n) × (pos n ≡ value g steps)
