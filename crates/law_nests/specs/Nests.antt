-- A nest of loops and its iterations. (C11 6.8.5.3; OpenMP 5.2, 4.4.2)
use Rattle.std.specs.Prelude.{ℕ, ◌≡◌, ◌≢◌, List, length, map, flat_map, Some, Contains}
use Rattle.std.specs.List.{AllPairs}
use Rattle.semantics.specs.Tree.{Stmt}
use Rattle.semantics.specs.Meaning.State.{State, overwritten}
use Rattle.semantics.specs.Meaning.Runs.{Effect, run}
use Rattle.semantics.specs.Meaning.Agrees.{AgreesBehind}
use Rattle.semantics.specs.Loops.Nest.{Loop, Vector, nest_of, iterations}
use Rattle.semantics.specs.Loops.Access.{Conflict}
use Rattle.semantics.specs.Loops.Arrangement.{EachOnceBelow}
use Rattle.semantics.specs.Loops.Piece.{Piece, no_roles, piece, run_iterations}
use Rattle.semantics.specs.Loops.Joined.{joined_state, joined_text}
use Rattle.law_commute.specs.Commuting.{KeepsToItself, InnerLoopsTurn}
use Rattle.law_commute.specs.Joining.{plain_loop, DeclaresLocals}

-- iterations in sequence have a run, which prints what the nest prints and leaves what it leaves
pub record RunAsTheNest (s : Stmt) (loops : List Loop) (body : Stmt) (us : List Vector) (outer : State) (e : Effect) : Type 0 where
  pub effect : Effect
  pub run : run_iterations loops body us outer ≡ Some effect
  pub text : e.text ≡ effect.text
  pub leave : AgreesBehind s no_roles (overwritten outer e.writes) (overwritten outer effect.writes)

-- so do the iterations of a nest that keeps to itself, wherever it has a run
abbrev pub NestsRunTheirIterations : Type 0
NestsRunTheirIterations =
    (n : ℕ) (s : Stmt) (loops : List Loop) (body : Stmt) (outer : State) (us : List Vector) (e : Effect) → nest_of n s ≡ Some (loops, body)
    → KeepsToItself s → DeclaresLocals s outer → iterations loops outer ≡ Some us
    → ((u : Vector) → Contains us u → InnerLoopsTurn loops body outer u) → run s outer ≡ Some e
    → RunAsTheNest s loops body us outer e

-- chunks of a nest's iterations have a piece each from the state before the nest, and joined in any order they leave what the nest leaves; their texts, one after another in the order of the chunks, are what it prints (OpenMP 5.2, 15.10.2)
pub record JoinAsTheNest (s : Stmt) (loops : List Loop) (body : Stmt) (chunks : List (List Vector)) (outer : State) (e : Effect) : Type 0 where
  pub pieces : List Piece
  pub each : map (piece (plain_loop loops body) outer) chunks ≡ map Some pieces
  pub leave : (order : List ℕ) → EachOnceBelow (length chunks) order → AgreesBehind s no_roles (overwritten outer e.writes) (joined_state no_roles outer pieces order)
  pub text : joined_text pieces ≡ e.text

-- so do chunks of iterations that are all different and of which no two conflict
abbrev pub IndependentNestsJoin : Type 0
IndependentNestsJoin =
    (n : ℕ) (s : Stmt) (loops : List Loop) (body : Stmt) (outer : State) (us : List Vector) (chunks : List (List Vector)) (e : Effect)
    → nest_of n s ≡ Some (loops, body) → KeepsToItself s → KeepsToItself body → DeclaresLocals s outer → iterations loops outer ≡ Some us
    → AllPairs (λ u v. u ≢ v) us → ((u : Vector) → Contains us u → InnerLoopsTurn loops body outer u)
    → ((u v : Vector) → Contains us u → Contains us v → Conflict loops body outer u v → ⊥)
    → flat_map (λ vs. vs) chunks ≡ us → run s outer ≡ Some e → JoinAsTheNest s loops body chunks outer e
