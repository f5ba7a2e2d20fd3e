-- Iterations of a scan: each uses the scan variable as the one before it left it. (OpenMP 5.2, 5.6)
use Rattle.std.specs.Prelude.{ℕ, true, false, ◌≡◌, ◌≢◌, List, [], ◌∷◌, ◌++◌, length, Some, Contains}
use Rattle.std.specs.List.{AllPairs}
use Rattle.semantics.specs.Tree.{Variable, Stmt}
use Rattle.semantics.specs.Meaning.State.{State, overwritten, look}
use Rattle.semantics.specs.Meaning.Runs.{Effect, joined}
use Rattle.semantics.specs.Meaning.Agrees.{is_among, visible_behind}
use Rattle.semantics.specs.Loops.Nest.{Loop, Vector}
use Rattle.semantics.specs.Loops.Access.{Conflict}
use Rattle.semantics.specs.Loops.Piece.{is_outside}
use Rattle.law_commute.specs.Targets.{KeepsApart, AssignsFirst}
use Rattle.law_commute.specs.Commuting.{InnerLoopsTurn}
use Rattle.law_nests.specs.Walks.{walk}
use Rattle.law_roles.specs.Following.{variables_of}

-- iterations, all different and no two in conflict, that assign no scalar from outside but the scan variable and private ones, these before they read them
pub record IsScan (x : Variable) (privates : List Variable) (loops : List Loop) (body : Stmt) (outer : State) (us : List Vector) : Type 0 where
  pub keeps : KeepsApart (x ∷ privates) body
  pub declares_none : (y : Variable) → is_among (x ∷ privates) y ≡ true → visible_behind body y ≡ true
  pub apart : is_among privates x ≡ false
  pub first : AssignsFirst privates body
  pub not_of_loops : is_among (variables_of loops) x ≡ false
  pub long : (u : Vector) → Contains us u → length u ≡ length loops
  pub turning : (u : Vector) → Contains us u → InnerLoopsTurn loops body outer u
  pub different : AllPairs (λ u v. u ≢ v) us
  pub independent : (u v : Vector) → Contains us u → Contains us v → Conflict loops body outer u v → ⊥

-- the scan variable and private ones are locals, and all else is as before the loop
pub record StandsAt (x : Variable) (privates : List Variable) (outer : State) (v : ℕ) (start : State) : Type 0 where
  pub locals : (y : Variable) → is_among (x ∷ privates) y ≡ false → start.locals y ≡ outer.locals y
  pub scalars : (y : Variable) → is_among (x ∷ privates) y ≡ false → start.cells y [] ≡ outer.cells y []
  pub elements : (y : Variable) (i : ℕ) (is : List ℕ) → start.cells y (i ∷ is) ≡ outer.cells y (i ∷ is)
  pub inside : (y : Variable) → is_among (x ∷ privates) y ≡ true → is_outside (start.locals y) ≡ false
  pub value : look start x [] ≡ Some v

-- what some iterations do behind others in sequence they do from the state before the loop, with the scan variable at its value there
pub record Repeats (x : Variable) (privates : List Variable) (loops : List Loop) (body : Stmt) (us vs : List Vector) (outer : State) (e : Effect) : Type 0 where
  pub before : Effect
  pub before_is : walk loops body us outer ≡ Some before
  pub value : ℕ
  pub value_is : look (overwritten outer before.writes) x [] ≡ Some value
  pub alone : Effect
  pub alone_is : walk loops body vs (overwritten outer before.writes) ≡ Some alone
  pub repeated : (start : State) → StandsAt x privates outer value start
      → (walk loops body vs start ≡ Some alone)
      × (look (overwritten start alone.writes) x [] ≡ look (overwritten (overwritten outer before.writes) alone.writes) x [])
  pub whole : e ≡ joined before alone

-- so do all iterations of a scan, from whichever state that stands so
abbrev pub ChunksRepeat : Type 0
ChunksRepeat =
    (x : Variable) (privates : List Variable) (loops : List Loop) (body : Stmt) (us vs : List Vector) (outer : State) (v : ℕ) (e : Effect)
    → IsScan x privates loops body outer (us ++ vs) → StandsAt x privates outer v outer → walk loops body (us ++ vs) outer ≡ Some e
    → Repeats x privates loops body us vs outer e
