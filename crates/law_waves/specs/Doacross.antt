-- A doacross nest wave by wave, each wave in chunks. (OpenMP 5.2, 5.4.3, 11.5.3, 15.9.6 and 15.10.1)
use Rattle.std.specs.Prelude.{ℕ, suc, true, false, ◌≡◌, ◌≢◌, ◌⊎◌, List, [], flat_map, Some, Contains}
use Rattle.std.specs.List.{AllPairs, list_all}
use Rattle.semantics.specs.Tree.{Variable, Stmt}
use Rattle.semantics.specs.Meaning.State.{State, overwritten}
use Rattle.semantics.specs.Meaning.Runs.{Effect, run}
use Rattle.semantics.specs.Meaning.Places.{below}
use Rattle.semantics.specs.Meaning.Agrees.{is_among, visible_behind}
use Rattle.semantics.specs.Loops.Nest.{Loop, Vector, nest_of, iterations}
use Rattle.semantics.specs.Loops.Access.{Conflict}
use Rattle.semantics.specs.Loops.Order.{Distance, is_ahead, Before, Respects, wave, wave_count}
use Rattle.semantics.specs.Loops.Piece.{Roles}
use Rattle.law_commute.specs.Targets.{KeepsApart, AssignsFirst}
use Rattle.law_commute.specs.Commuting.{InnerLoopsTurn}
use Rattle.law_commute.specs.Joining.{DeclaresLocals}
use Rattle.law_nests.specs.Walks.{walk}
use Rattle.law_nests.specs.Merging.{left_by}
use Rattle.law_roles.specs.Sharing.{assigned_first, role_variables, IsScalar, MayStart, changed_from, SharesFrom}
use Rattle.law_waves.specs.Silent.{is_silent}

-- ---- the nest

-- all roles are private, and a nest assigns no scalar from outside but private ones, these before it reads them
pub record KeepsPrivates (roles : Roles) (s body : Stmt) (outer : State) : Type 0 where
  -- no variable is firstprivate, lastprivate, conditional or reduced
  pub no_firsts : roles.firsts ≡ []
  pub no_lasts : roles.lasts ≡ []
  pub no_conditionals : roles.conditionals ≡ []
  pub no_reductions : roles.reductions ≡ []
  -- the nest, and its body, name what is declared outside or inside, and assign no scalar from outside but private ones; subscripts, bounds and steps are of what neither assigns
  pub whole : KeepsApart (role_variables roles) s
  pub inside : KeepsApart (role_variables roles) body
  -- private variables are from outside
  pub declares_none : (x : Variable) → is_among (role_variables roles) x ≡ true → visible_behind s x ≡ true
  -- each stands there, as a local or at file scope
  pub scalars : (x : Variable) → is_among (role_variables roles) x ≡ true → IsScalar outer x
  -- and is assigned before it is read, on every path
  pub first : AssignsFirst (assigned_first roles) s

-- what is known of such a nest before it, and of its sinks
pub record IsDoacross (roles : Roles) (ds : List Distance) (n : ℕ) (s : Stmt) (loops : List Loop) (body : Stmt) (outer : State) (us : List Vector) (e : Effect) : Type 0 where
  -- it is a nest of so many loops with this body
  pub nest : nest_of n s ≡ Some (loops, body)
  pub keeps : KeepsPrivates roles s body outer
  -- it prints nothing
  pub silent : is_silent body ≡ true
  -- what it declares is no object at file scope
  pub declares : DeclaresLocals s outer
  -- these are its iterations, all different
  pub are : iterations loops outer ≡ Some us
  pub different : AllPairs (λ u v. u ≢ v) us
  -- at each of them the body's own loops have their turns
  pub turning : (u : Vector) → Contains us u → InnerLoopsTurn loops body outer u
  -- each sink lies ahead, and the nest's own order puts it before the iteration that names it
  pub ahead : list_all is_ahead ds ≡ true
  pub in_order : Respects us ds us
  -- of two iterations that conflict, the sinks put one before the other
  pub covered : (u v : Vector) → Contains us u → Contains us v → Conflict loops body outer u v → Before us ds u v ⊎ Before us ds v u
  -- and the nest has this run
  pub ran : run s outer ≡ Some e

-- ---- the states between waves

-- an effect is in force, but for private variables
pub record IsLeft (roles : Roles) (s : Stmt) (before : State) (e : Effect) (after : State) : Type 0 where
  -- objects at file scope hold what it leaves
  pub cells : (x : Variable) (is : List ℕ) → is_among (role_variables roles) x ≡ false → after.cells x is ≡ left_by before e x is
  -- locals round the nest are as before
  pub locals : (x : Variable) → visible_behind s x ≡ true → is_among (role_variables roles) x ≡ false → after.locals x ≡ before.locals x
  -- private variables stand there, whatever they hold
  pub scalars : (x : Variable) → is_among (role_variables roles) x ≡ true → IsScalar after x

-- the iterations of the first so many waves, one wave behind another
abbrev pub first_waves : List Vector → List Distance → ℕ → List Vector
first_waves us ds i = flat_map (wave us ds) (below i)

-- a state behind the first i waves
pub record StandsBehind (roles : Roles) (ds : List Distance) (s : Stmt) (loops : List Loop) (body : Stmt) (us : List Vector) (outer : State) (i : ℕ) (state : State) : Type 0 where
  -- a walk over their iterations from the state before the nest does this
  pub effect : Effect
  pub ran : walk loops body (first_waves us ds i) outer ≡ Some effect
  -- and that is left
  pub left : IsLeft roles s outer effect state

-- ---- the waves

-- what the next wave does from such a state
pub record SharesWave (roles : Roles) (ds : List Distance) (s : Stmt) (loops : List Loop) (body : Stmt) (us : List Vector) (outer : State) (i : ℕ) (state : State) : Type 0 where
  -- the nest's iterations are the same there
  pub are : iterations loops state ≡ Some us
  -- a walk over the wave does this, and prints nothing
  pub here : Effect
  pub ran : walk loops body (wave us ds i) state ≡ Some here
  pub text : here.text ≡ []
  -- chunks that are the wave, each from where a chunk may start, have a run each, and what these change, put together, is what the wave leaves
  pub shares : (start : State) (chunks : List (List Vector)) → MayStart roles state start → flat_map (λ vs. vs) chunks ≡ wave us ds i
      → SharesFrom start (changed_from start) roles s loops body chunks state here
  -- where that is left, a state stands behind one wave more
  pub next : (after : State) → IsLeft roles s state here after → StandsBehind roles ds s loops body us outer (suc i) after

-- a nest that may be run wave by wave
pub record SharesInWaves (roles : Roles) (ds : List Distance) (s : Stmt) (loops : List Loop) (body : Stmt) (us : List Vector) (outer : State) (e : Effect) : Type 0 where
  -- the state before it stands behind no wave
  pub begins : StandsBehind roles ds s loops body us outer 0 outer
  -- from each state behind some waves the next one may be run in chunks
  pub goes_on : (i : ℕ) (state : State) → StandsBehind roles ds s loops body us outer i state → SharesWave roles ds s loops body us outer i state
  -- behind all waves there is left what the nest leaves
  pub ends : (state : State) → StandsBehind roles ds s loops body us outer (wave_count us ds) state → IsLeft roles s outer e state
  -- the nest leaves locals round it as they were, but for private ones, and prints nothing
  pub locals : (x : Variable) → visible_behind s x ≡ true → is_among (role_variables roles) x ≡ false → (overwritten outer e.writes).locals x ≡ outer.locals x
  pub text : e.text ≡ []

-- so may each doacross nest
abbrev pub WaveChunksJoin : Type 0
WaveChunksJoin =
    (roles : Roles) (ds : List Distance) (n : ℕ) (s : Stmt) (loops : List Loop) (body : Stmt) (outer : State) (us : List Vector) (e : Effect)
    → IsDoacross roles ds n s loops body outer us e → SharesInWaves roles ds s loops body us outer e
