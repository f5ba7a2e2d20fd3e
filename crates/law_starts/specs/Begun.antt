-- The state in which a chunk begins that has no copies. (OpenMP 5.2, 5.5.2)
use Rattle.std.specs.Prelude.{ℕ, true, ◌≡◌, List, [], ◌∷◌, ◌++◌, map, Some, IsSome}
use Rattle.semantics.specs.Tree.{Variable, Stmt}
use Rattle.semantics.specs.Meaning.State.{State, look, overwritten}
use Rattle.semantics.specs.Meaning.Value.{map_option}
use Rattle.semantics.specs.Meaning.Runs.{Effect}
use Rattle.semantics.specs.Meaning.Agrees.{is_among, visible_behind}
use Rattle.semantics.specs.Loops.Nest.{Loop, Vector, nest_of}
use Rattle.semantics.specs.Loops.Operator.{ReduceOp}
use Rattle.semantics.specs.Loops.Piece.{Roles}
use Rattle.semantics.specs.Loops.Joined.{given}
use Rattle.law_nests.specs.Walks.{walk}
use Rattle.law_roles.specs.Reducing.{AreHeld}
use Rattle.law_roles.specs.Sharing.{role_variables, are_different, IsScalar, begins_with, MayStart}

-- lastprivate and reduction variables: what they hold is told by a chunk apart from what else it leaves
abbrev pub told_apart : Roles → List Variable
told_apart roles = roles.lasts ++ map (λ r. r.0) roles.reductions

-- reduction variables that hold a number take what a chunk may begin with, one after another
abbrev pub begun_with : List (Variable × ReduceOp) → State → State
begun_with [] s = s
begun_with (r ∷ rs) s = begun_with rs (given s r.0 (map_option (begins_with r.1) (look s r.0 [])))

-- those of a loop do, and all else is as before it
abbrev pub begun : Roles → State → State
begun roles outer = begun_with roles.reductions outer

-- then they stand as a chunk's may
abbrev pub ChunksMayBegin : Type 0
ChunksMayBegin =
    (roles : Roles) (outer : State) → ((x : Variable) → is_among (role_variables roles) x ≡ true → IsScalar outer x)
    → are_different (map (λ r. r.0) roles.reductions) ≡ true → MayStart roles outer (begun roles outer)

-- a walk over a nest's iterations leaves a number in a variable that held one, and that the nest does not declare
abbrev pub WalksKeepNumbers : Type 0
WalksKeepNumbers =
    (n : ℕ) (s : Stmt) (loops : List Loop) (body : Stmt) (us : List Vector) (start : State) (e : Effect) (x : Variable)
    → nest_of n s ≡ Some (loops, body) → visible_behind s x ≡ true → walk loops body us start ≡ Some e → IsSome (look start x [])
    → IsSome (look (overwritten start e.writes) x [])

-- so a walk over iterations of a nest that declares no reduction variable, from where a chunk begins, leaves a number in each of them
abbrev pub ChunksKeepNumbers : Type 0
ChunksKeepNumbers =
    (roles : Roles) (n : ℕ) (s : Stmt) (loops : List Loop) (body : Stmt) (us : List Vector) (outer : State) (e : Effect)
    → nest_of n s ≡ Some (loops, body) → ((x : Variable) → is_among (role_variables roles) x ≡ true → visible_behind s x ≡ true)
    → AreHeld roles.reductions outer → walk loops body us (begun roles outer) ≡ Some e
    → AreHeld roles.reductions (overwritten (begun roles outer) e.writes)
