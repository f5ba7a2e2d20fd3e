-- Iterations of a scan in any order, each begun with the scan variable at its sequential value there. (OpenMP 5.2, 5.6)
use Rattle.std.specs.Prelude.{ℕ, Bool, true, false, ◌≡◌, ◌≢◌, List, [], ◌∷◌, Some, Contains}
use Rattle.std.specs.List.{AllPairs}
use Rattle.semantics.specs.Tree.{Variable, Stmt, Items}
use Rattle.semantics.specs.Meaning.State.{State, look}
use Rattle.semantics.specs.Meaning.Runs.{Effect}
use Rattle.semantics.specs.Meaning.Agrees.{is_among, visible_behind}
use Rattle.semantics.specs.Loops.Nest.{Loop, Vector}
use Rattle.semantics.specs.Loops.Access.{Conflict}
use Rattle.semantics.specs.Loops.Operator.{ReduceOp}
use Rattle.semantics.specs.Loops.Piece.{Roles, SharedLoop}
use Rattle.semantics.specs.Theorems.{CommutesInScan}
use Rattle.law_commute.specs.Targets.{KeepsApart, AssignsFirst}
use Rattle.law_commute.specs.Commuting.{InnerLoopsTurn}
use Rattle.law_roles.specs.Following.{variables_of}
use Rattle.law_roles.specs.Sharing.{IsScalar}
use Rattle.law_scans.specs.Scanning.{whole_of, IsScanned}

-- what is known of iterations that depend on each other in the scan variable alone
pub record IsCarried (x : Variable) (privates : List Variable) (loop : SharedLoop) (outer : State) (us : List Vector) : Type 0 where
  -- the body assigns no scalar from outside but the scan variable and private ones, these before it reads them; subscripts, bounds and steps are of what it does not assign
  pub keeps : KeepsApart (x ∷ privates) loop.body
  pub first : AssignsFirst privates loop.body
  pub apart : is_among privates x ≡ false
  -- these are from outside the body, and no loop's; each stands there, as a local or at file scope
  pub declares_none : (y : Variable) → is_among (x ∷ privates) y ≡ true → visible_behind loop.body y ≡ true
  pub not_of_loops : (y : Variable) → is_among (x ∷ privates) y ≡ true → is_among (variables_of loop.loops) y ≡ false
  pub scalars : (y : Variable) → is_among (x ∷ privates) y ≡ true → IsScalar outer y
  -- the scan variable holds a number
  pub number : (v : ℕ) × (look outer x [] ≡ Some v)
  -- the iterations are all different, at each of them the body's own loops have their turns, and no two conflict
  pub different : AllPairs (λ u v. u ≢ v) us
  pub turning : (u : Vector) → Contains us u → InnerLoopsTurn loop.loops loop.body outer u
  pub independent : (u v : Vector) → Contains us u → Contains us v → Conflict loop.loops loop.body outer u v → ⊥

-- such iterations leave the same elements in any order
abbrev pub CarriedIterationsCommute : Type 0
CarriedIterationsCommute =
    (x : Variable) (privates : List Variable) (loop : SharedLoop) (outer : State) (us : List Vector)
    → IsCarried x privates loop outer us → CommutesInScan loop x outer us

-- and so do those of each scan that may be run in two passes
abbrev pub ScanNestsCommute : Type 0
ScanNestsCommute =
    (roles : Roles) (x : Variable) (op : ReduceOp) (inclusive : Bool) (n : ℕ) (s : Stmt) (loops : List Loop) (front back : Items) (outer : State) (chunks : List (List Vector)) (e : Effect)
    → (is : IsScanned roles x op inclusive n s loops front back outer chunks e)
    → CommutesInScan (record { loops = loops; body = whole_of front back; roles = roles }) x outer is.vectors
