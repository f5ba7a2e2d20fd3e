-- Iterations that do not conflict may run in any order. (OpenMP 5.2, 11.5; C11 5.1.2.4)
use Rattle.std.specs.Prelude.{ℕ, true, false, ◌≡◌, ◌≢◌, List, [], ◌∷◌, Some, IsSome, Contains, All}
use Rattle.std.specs.List.{AllPairs}
use Rattle.semantics.specs.Tree.{Variable, Stmt}
use Rattle.semantics.specs.Meaning.State.{State, Outside, Write, Declared, Assigned}
use Rattle.semantics.specs.Meaning.Runs.{Effect}
use Rattle.semantics.specs.Meaning.Agrees.{names_only, visible_behind}
use Rattle.semantics.specs.Loops.Nest.{Loop, Vector, iterations, at_vector}
use Rattle.semantics.specs.Loops.Access.{Access, Mode, Writes, accesses, Touches, Conflict}
use Rattle.semantics.specs.Loops.Piece.{SharedLoop, run_iteration}
use Rattle.semantics.specs.Theorems.{CommutesInAnyOrder}
use Rattle.law_commute.specs.Steady.{IsSteady}

-- a body that names only what is declared outside of it, or inside of it and before (C11 6.2.1), and that assigns no scalar from outside
pub record KeepsToItself (body : Stmt) : Type 0 where
  pub names : names_only (visible_behind body) body ≡ true
  pub steady : IsSteady (visible_behind body) body

-- in this iteration the body's loops round each access have their turns, also where a guard keeps them from running
abbrev pub InnerLoopsTurn : List Loop → Stmt → State → Vector → Type 0
InnerLoopsTurn loops body outer u =
    (access : Access) → Contains (accesses [] body) access → IsSome (iterations access.inner (at_vector loops u outer))

-- a state that looks to an iteration like the one before the loop: scalars from outside the body are the same, and so are the elements that it touches
pub record LooksAlike (loops : List Loop) (body : Stmt) (outer : State) (u : Vector) (s : State) : Type 0 where
  pub locals : (x : Variable) → visible_behind body x ≡ true → s.locals x ≡ outer.locals x
  pub scalars : (x : Variable) → visible_behind body x ≡ true → s.cells x [] ≡ outer.cells x []
  pub elements : (x : Variable) (i : ℕ) (is : List ℕ) (mode : Mode)
      → Touches loops body outer u (record { array = x; indexes = i ∷ is }) mode → s.cells x (i ∷ is) ≡ outer.cells x (i ∷ is)

-- a write of an iteration: to what the body declares, or to an element of an outside array that the iteration touches for a write
abbrev pub IsOwnWrite : List Loop → Stmt → State → Vector → Write → Type 0
IsOwnWrite loops body outer u (Declared x v) = visible_behind body x ≡ false
IsOwnWrite loops body outer u (Assigned x [] v) = visible_behind body x ≡ false
IsOwnWrite loops body outer u (Assigned x (i ∷ is) v) =
    (visible_behind body x ≡ true) × (outer.locals x ≡ Outside)
    × Touches loops body outer u (record { array = x; indexes = i ∷ is }) Writes

-- from a state that looks the same an iteration does the same, or has no run in either
abbrev pub IterationsSeeWhatTheyTouch : Type 0
IterationsSeeWhatTheyTouch =
    (loops : List Loop) (body : Stmt) (outer s : State) (u : Vector) → KeepsToItself body → InnerLoopsTurn loops body outer u
    → LooksAlike loops body outer u s → run_iteration loops body u s ≡ run_iteration loops body u outer

-- and its writes are its own
abbrev pub IterationsWriteWhatTheyTouch : Type 0
IterationsWriteWhatTheyTouch =
    (loops : List Loop) (body : Stmt) (outer s : State) (u : Vector) (e : Effect) → KeepsToItself body
    → InnerLoopsTurn loops body outer u → LooksAlike loops body outer u s → run_iteration loops body u s ≡ Some e
    → All (IsOwnWrite loops body outer u) e.writes

-- iterations of a loop without reductions that are all different, and of which no two conflict, leave the same elements in any order
abbrev pub IndependentIterationsCommute : Type 0
IndependentIterationsCommute =
    (loop : SharedLoop) (outer : State) (us : List Vector) → loop.roles.reductions ≡ [] → KeepsToItself loop.body
    → AllPairs (λ u v. u ≢ v) us
    → ((u : Vector) → Contains us u → InnerLoopsTurn loop.loops loop.body outer u)
    → ((u v : Vector) → Contains us u → Contains us v → Conflict loop.loops loop.body outer u v → ⊥)
    → CommutesInAnyOrder loop outer us
