-- Chunks of iterations that do not conflict, each run from the state before the loop, may be joined in any order. (OpenMP 5.2, 11.5 and 11.5.3)
use Rattle.std.specs.Prelude.{ℕ, false, ◌≡◌, ◌≢◌, List, [], length, map, flat_map, Some, None, Contains}
use Rattle.std.specs.List.{AllPairs}
use Rattle.semantics.specs.Tree.{Variable, Stmt}
use Rattle.semantics.specs.Meaning.State.{State, overwritten}
use Rattle.semantics.specs.Meaning.Runs.{Effect}
use Rattle.semantics.specs.Meaning.Agrees.{AgreesBehind, visible_behind}
use Rattle.semantics.specs.Loops.Arrangement.{EachOnceBelow}
use Rattle.semantics.specs.Loops.Nest.{Loop, Vector}
use Rattle.semantics.specs.Loops.Access.{Conflict}
use Rattle.semantics.specs.Loops.Piece.{SharedLoop, Piece, no_roles, piece, run_iterations}
use Rattle.semantics.specs.Loops.Joined.{joined_state, joined_text}
use Rattle.law_commute.specs.Commuting.{KeepsToItself, InnerLoopsTurn}

-- a worksharing loop whose clauses name no variable
abbrev pub plain_loop : List Loop → Stmt → SharedLoop
plain_loop loops body = record { loops = loops; body = body; roles = no_roles }

-- what a body declares is no file-scope object (C11 6.2.1)
abbrev pub DeclaresLocals : Stmt → State → Type 0
DeclaresLocals body s = (x : Variable) → visible_behind body x ≡ false → s.cells x [] ≡ None

-- each chunk has a piece from this state, and in whatever order these are joined, they leave what this effect leaves; their texts, one after another in the order of the chunks, are its text (OpenMP 5.2, 15.10.2)
pub record JoinTo (loop : SharedLoop) (before : State) (e : Effect) (chunks : List (List Vector)) : Type 0 where
  pub pieces : List Piece
  pub each : map (piece loop before) chunks ≡ map Some pieces
  pub leave : (order : List ℕ) → EachOnceBelow (length chunks) order → AgreesBehind loop.body loop.roles (overwritten before e.writes) (joined_state loop.roles before pieces order)
  pub text : joined_text pieces ≡ e.text

-- chunks that are all iterations, which are all different and of which no two conflict, join to what these leave in sequence
abbrev pub IndependentChunksJoin : Type 0
IndependentChunksJoin =
    (loops : List Loop) (body : Stmt) (outer : State) (us : List Vector) (chunks : List (List Vector)) (e : Effect) → KeepsToItself body
    → AllPairs (λ u v. u ≢ v) us → ((u : Vector) → Contains us u → InnerLoopsTurn loops body outer u)
    → ((u v : Vector) → Contains us u → Contains us v → Conflict loops body outer u v → ⊥)
    → DeclaresLocals body outer → flat_map (λ vs. vs) chunks ≡ us → run_iterations loops body us outer ≡ Some e
    → JoinTo (plain_loop loops body) outer e chunks
