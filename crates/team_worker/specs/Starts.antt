-- Which iterations a pass of a loop takes, where its chunks begin, and their runs from there. (OpenMP 5.2, 5.5.2, 5.6 and 15.9.6)
use Rattle.std.specs.Prelude.{ℕ, ◌≡◌, ◌<◌, List, [], map, length, Some, slice_get, slice_index, get_or, All}
use Rattle.std.proofs.Common.{Vec, Global}
use Rattle.semantics.specs.Tree.{Stmt}
use Rattle.semantics.specs.Meaning.State.{State}
use Rattle.semantics.specs.Meaning.Runs.{Effect}
use Rattle.semantics.specs.Loops.Nest.{Loop, Vector}
use Rattle.semantics.specs.Loops.Piece.{Roles}
use Rattle.law_nests.specs.Walks.{walk}
use Rattle.overlay.specs.declared.beginning.Start.{Start}
use Rattle.overlay.specs.declared.beginning.Start.TheVariants.{Reduction, Scan}
use Rattle.overlay.specs.declared.positions.Order.{Order}
use Rattle.overlay.specs.declared.positions.Order.TheVariants.{Sequential, Listed}
use Rattle.overlay.specs.Chunks.{started}
use Rattle.team_worker.specs.declared.pass.Pass.{Pass}
use Rattle.team_worker.specs.declared.pass.Pass.TheVariants.{Plain, Second, Wave}

-- the iterations that a pass takes, one behind another: all of them as C runs them, or those of a wave
abbrev pub taken_in : Pass → List Vector → List Vector
taken_in Plain us = us
taken_in (Second starts) us = us
taken_in (Wave numbers) us = map (λ k. get_or us k []) numbers.items

-- each number of a wave is that of an iteration
pub record AreTakenFrom (pass : Pass) (us : List Vector) : Type 0 where
  pub wave : (numbers : Vec ℕ Global) → pass ≡ Wave numbers → All (λ k. k < length us) numbers.items

-- a pass takes all iterations
abbrev pub TakesAll : Pass → Type 0
TakesAll Plain = Unit {0}
TakesAll (Second starts) = Unit {0}
TakesAll (Wave numbers) = ⊥

-- this is the order in which it takes them
abbrev pub IsOrderOf : Pass → Order → Type 0
IsOrderOf Plain order = order ≡ Sequential
IsOrderOf (Second starts) order = order ≡ Sequential
IsOrderOf (Wave numbers) Sequential = ⊥
IsOrderOf (Wave numbers) (Listed listed) = listed.now ≡ numbers.items

-- chunks of it tell of all lastprivate variables; those of a wave tell of none, and there may be none
abbrev pub TellsOf : Pass → Roles → Type 0
TellsOf Plain roles = Unit {0}
TellsOf (Second starts) roles = Unit {0}
TellsOf (Wave numbers) roles = roles.lasts ≡ []

-- what the chunk of a number begins with
abbrev pub start_at : Pass → ℕ → Start
start_at Plain number = Reduction
start_at (Second starts) number = Scan (slice_index starts.items number)
start_at (Wave numbers) number = Reduction

-- the state in which it begins
abbrev pub started_in : Pass → Roles → State → ℕ → State
started_in pass roles outer number = started (start_at pass number) roles.reductions outer

-- chunks of iterations, each with a run from the state in which the chunk of its number begins
pub record HaveRuns (loops : List Loop) (body : Stmt) (start : ℕ → State) (chunks : List (List Vector)) (effects : List Effect) : Type 0 where
  pub count : length effects ≡ length chunks
  pub each : (number : ℕ) (us : List Vector) → slice_get chunks number ≡ Some us → (e : Effect) × (slice_get effects number ≡ Some e) × (walk loops body us (start number) ≡ Some e)
