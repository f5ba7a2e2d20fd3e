-- Iterations of a doacross nest in any order that respects its sinks. (OpenMP 5.2, 15.9.6)
use Rattle.std.specs.Prelude.{ℕ, true, false, ◌≡◌, ◌≢◌, ◌⊎◌, List, [], Contains}
use Rattle.std.specs.List.{AllPairs}
use Rattle.semantics.specs.Tree.{Variable, Stmt}
use Rattle.semantics.specs.Meaning.State.{State}
use Rattle.semantics.specs.Meaning.Runs.{Effect}
use Rattle.semantics.specs.Meaning.Agrees.{is_among, visible_behind}
use Rattle.semantics.specs.Loops.Nest.{Loop, Vector}
use Rattle.semantics.specs.Loops.Access.{Conflict}
use Rattle.semantics.specs.Loops.Order.{Distance, Before, Respects}
use Rattle.semantics.specs.Loops.Piece.{Roles, SharedLoop}
use Rattle.semantics.specs.Theorems.{CommutesInOrder}
use Rattle.law_commute.specs.Targets.{KeepsApart, AssignsFirst}
use Rattle.law_commute.specs.Commuting.{InnerLoopsTurn}
use Rattle.law_roles.specs.Following.{variables_of}
use Rattle.law_roles.specs.Sharing.{IsScalar}
use Rattle.law_waves.specs.Doacross.{IsDoacross}

-- what is known of iterations that depend on each other, and of their sinks
pub record IsOrdered (privates : List Variable) (loop : SharedLoop) (ds : List Distance) (outer : State) (us : List Vector) : Type 0 where
  -- no variable is reduced
  pub no_reductions : loop.roles.reductions ≡ []
  -- the body assigns no scalar from outside but private ones, these before it reads them; subscripts, bounds and steps are of what it does not assign
  pub keeps : KeepsApart privates loop.body
  pub first : AssignsFirst privates loop.body
  -- private variables are from outside the body, and no loop's; each stands there, as a local or at file scope
  pub declares_none : (x : Variable) → is_among privates x ≡ true → visible_behind loop.body x ≡ true
  pub not_of_loops : (x : Variable) → is_among privates x ≡ true → is_among (variables_of loop.loops) x ≡ false
  pub scalars : (x : Variable) → is_among privates x ≡ true → IsScalar outer x
  -- the iterations are all different, and at each of them the body's own loops have their turns
  pub different : AllPairs (λ u v. u ≢ v) us
  pub turning : (u : Vector) → Contains us u → InnerLoopsTurn loop.loops loop.body outer u
  -- the order of the nest puts each sink before the iteration that names it
  pub in_order : Respects us ds us
  -- of two iterations that conflict, the sinks put one before the other
  pub covered : (u v : Vector) → Contains us u → Contains us v → Conflict loop.loops loop.body outer u v → Before us ds u v ⊎ Before us ds v u

-- such iterations leave the same elements in any order that respects the sinks
abbrev pub OrderedIterationsCommute : Type 0
OrderedIterationsCommute =
    (privates : List Variable) (loop : SharedLoop) (ds : List Distance) (outer : State) (us : List Vector)
    → IsOrdered privates loop ds outer us → CommutesInOrder loop ds outer us

-- and so do those of each nest that may be run wave by wave
abbrev pub DoacrossNestsCommute : Type 0
DoacrossNestsCommute =
    (roles : Roles) (ds : List Distance) (n : ℕ) (s : Stmt) (loops : List Loop) (body : Stmt) (outer : State) (us : List Vector) (e : Effect)
    → IsDoacross roles ds n s loops body outer us e → CommutesInOrder (record { loops = loops; body = body; roles = roles }) ds outer us
