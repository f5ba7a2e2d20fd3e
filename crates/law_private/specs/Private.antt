-- Scalars from outside that each iteration assigns before it reads them: its iterations may still be run apart. (OpenMP 5.2, 5.4.3 and 11.5)
use Rattle.std.specs.Prelude.{ℕ, true, ◌≡◌, ◌≢◌, List, [], flat_map, Some, Contains}
use Rattle.std.specs.List.{AllPairs, list_all}
use Rattle.semantics.specs.Tree.{Stmt}
use Rattle.semantics.specs.Meaning.State.{State}
use Rattle.semantics.specs.Meaning.Runs.{Effect, run}
use Rattle.semantics.specs.Loops.Nest.{Loop, Vector, nest_of, iterations}
use Rattle.semantics.specs.Loops.Access.{Conflict}
use Rattle.semantics.specs.Loops.Piece.{SharedLoop}
use Rattle.semantics.specs.Theorems.{CommutesInAnyOrder}
use Rattle.law_commute.specs.Targets.{targets_outside, KeepsApart, AssignsFirst, is_local}
use Rattle.law_commute.specs.Commuting.{InnerLoopsTurn}
use Rattle.law_commute.specs.Joining.{DeclaresLocals}
use Rattle.law_nests.specs.Merging.{WalkApart}

-- iterations that are all different, of which no two conflict, and which assign no scalar from outside but locals, each before they read it, leave the same elements in any order
abbrev pub PrivateIterationsCommute : Type 0
PrivateIterationsCommute =
    (loop : SharedLoop) (outer : State) (us : List Vector) → loop.roles.reductions ≡ [] → KeepsApart (targets_outside loop.body) loop.body
    → AssignsFirst (targets_outside loop.body) loop.body → list_all (is_local outer) (targets_outside loop.body) ≡ true
    → AllPairs (λ u v. u ≢ v) us
    → ((u : Vector) → Contains us u → InnerLoopsTurn loop.loops loop.body outer u)
    → ((u v : Vector) → Contains us u → Contains us v → Conflict loop.loops loop.body outer u v → ⊥)
    → CommutesInAnyOrder loop outer us

-- chunks of such iterations of a nest, each from the state before it, have a run each, and what they change, put together, is what the nest leaves; it prints what they print, in their order
abbrev pub PrivateChunksMerge : Type 0
PrivateChunksMerge =
    (n : ℕ) (s : Stmt) (loops : List Loop) (body : Stmt) (outer : State) (us : List Vector) (chunks : List (List Vector)) (e : Effect)
    → nest_of n s ≡ Some (loops, body) → KeepsApart (targets_outside s) s → KeepsApart (targets_outside s) body
    → AssignsFirst (targets_outside s) s → list_all (is_local outer) (targets_outside s) ≡ true
    → DeclaresLocals s outer → iterations loops outer ≡ Some us
    → AllPairs (λ u v. u ≢ v) us → ((u : Vector) → Contains us u → InnerLoopsTurn loops body outer u)
    → ((u v : Vector) → Contains us u → Contains us v → Conflict loops body outer u v → ⊥)
    → flat_map (λ vs. vs) chunks ≡ us → run s outer ≡ Some e → WalkApart s loops body chunks outer e
