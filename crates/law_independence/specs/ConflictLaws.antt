-- What the dependence test tells of a parallel loop: a conflict is one, in the words of the definitions. (C11 5.1.2.4, 4; OpenMP 5.2, 1.4.1 and 15.9.6)
use Rattle.std.specs.Prelude.{ℕ, ◌≡◌, ◌⊎◌, ◌<◌, List, [], ◌∷◌, length, map, slice_get, Option, Some, None, option_and_then, string_bytes}
use Rattle.semantics.specs.Tree.{Stmt, Declaration}
use Rattle.semantics.specs.Meaning.State.{State}
use Rattle.semantics.specs.Meaning.Value.{values}
use Rattle.semantics.specs.Loops.Nest.{Loop, Vector, nest_of, loop_values, at_value, iterations, at_vector}
use Rattle.semantics.specs.Loops.Access.{Access, Conflict, accesses}
use Rattle.semantics.specs.Loops.Order.{Distance}
use Rattle.ktree.specs.declared.refusal.Conflict as told
use Rattle.ktree.specs.declared.refusal.NotShown as not_shown
use Rattle.ktree.specs.declared.place.Place.{Place}
use Rattle.ktree.specs.declared.refusal.Refusal.{Refusal}
use Rattle.ktree.specs.declared.refusal.Refusal.TheVariants as refusals
use Rattle.pairtest_counter.specs.Levels.{Nesting}
use Rattle.pairtest.specs.declared.access.Access as pairs
use Rattle.pairtest.specs.declared.access.Nest.{Nest}
use Rattle.pairtest_access.specs.Sites.{Site}
use Rattle.pairtest_access.specs.Found.{inner_loops}
use Rattle.deptest_witness.specs.Pairs.{Meet, NeverMeet}
use Rattle.deptest_verdict.specs.Shown.{no_loops}
use Rattle.deptest_verdict.specs.Refused.{IsNameOf, AreTested, IsFirstOf, IsTooLarge}
use Rattle.law_turns.specs.Turns.{AreEntered}

-- the first of some values
abbrev pub first_value : List ℕ → Option ℕ
first_value [] = None
first_value (v ∷ vs) = Some v

-- the state at the first turns of loops inside each other, each at the first turn of those round it: every counter is 0; none where one of them has no turn there
abbrev pub first_turns : List Loop → State → Option State
first_turns [] s = Some s
first_turns (l ∷ ls) s = option_and_then (λ v. first_turns ls (at_value s l.variable v)) (option_and_then first_value (loop_values l s))

-- at the iteration of this number an access touches the element of these indexes, where each loop of its own is at its first turn
pub record TouchesFirst (loops : List Loop) (outer : State) (us : List Vector) (access : Access) (number : ℕ) (indexes : List ℕ) : Type 0 where
  pub vector : Vector
  pub is : slice_get us number ≡ Some vector
  pub there : State
  pub begins : first_turns access.inner (at_vector loops vector outer) ≡ Some there
  pub are : values there access.subscripts ≡ Some indexes

-- the pair that is told of a loop's body inside serial loops: two of its accesses, by their numbers in order of place, the first that are not shown to be independent, nor ordered by one of the loop's sinks; the array's name is theirs
pub record IsToldPair (ds : List Declaration) (sinks : List Distance) (serial loops : List Loop) (body : Stmt) (told : not_shown.NotShown) (one other : Access) : Type 0 where
  pub round : Nesting
  pub now : Nesting
  pub outside : AreEntered no_loops serial round
  pub entered : AreEntered round loops now
  pub first : IsFirstOf ds now (length round.levels) (map (λ v. v.most) (inner_loops 0 round.levels)) sinks body told
  pub one_is : slice_get (accesses [] body) first.first ≡ Some one
  pub other_is : slice_get (accesses [] body) first.second ≡ Some other
  pub same : one.array ≡ other.array
  pub name : IsNameOf ds one.array (string_bytes told.array)

-- a conflict by two accesses, whichever of them comes first
abbrev pub IsBetween : {loops : List Loop} {body : Stmt} {outer : State} {u v : Vector} → Access → Access → Conflict loops body outer u v → Type 0
IsBetween x y c =
    ((c.by_first.access ≡ x) × (c.by_second.access ≡ y)) ⊎ ((c.by_first.access ≡ y) × (c.by_second.access ≡ x))

-- inside the first turns of the serial loops round a nest, from this state on, its iterations of these two numbers conflict by these two accesses, at the first turns of the body's own loops
pub record IsConflictFrom (c : told.Conflict) (serial loops : List Loop) (body : Stmt) (one other : Access) (outside : State) : Type 0 where
  pub outer : State
  pub begins : first_turns serial outside ≡ Some outer
  pub us : List Vector
  pub are : iterations loops outer ≡ Some us
  pub order : c.earlier < c.later
  pub searched : c.later < 64
  pub meet : Meet (TouchesFirst loops outer us one) (TouchesFirst loops outer us other) c.earlier c.later c.indexes.items
  pub u : Vector
  pub v : Vector
  pub earlier : slice_get us c.earlier ≡ Some u
  pub later : slice_get us c.later ≡ Some v
  pub conflict : Conflict loops body outer u v
  pub array : conflict.element.array ≡ one.array
  pub indexes : conflict.element.indexes ≡ c.indexes.items
  pub between : IsBetween one other conflict

-- so it is in a parallel loop of so many associated loops that has no sinks, whatever the state round the serial loops, and the pair of accesses is the one that is told
pub record IsConflict (ds : List Declaration) (c : told.Conflict) (serial : List Loop) (n : ℕ) (s : Stmt) : Type 0 where
  pub loops : List Loop
  pub body : Stmt
  pub nest : nest_of n s ≡ Some (loops, body)
  pub one : Access
  pub other : Access
  pub pair : IsToldPair ds [] serial loops body c.accesses one other
  pub each : (outside : State) → IsConflictFrom c serial loops body one other outside

-- of the pair that is told, where the loop has no sinks: whatever the state round the serial loops, inside their first turns no two iterations below 64 touch one element by the two accesses, each at the first turns of the body's own loops round it; or a serial loop has no turn there
pub record IsNotFound (ds : List Declaration) (sinks : List Distance) (told : not_shown.NotShown) (serial : List Loop) (n : ℕ) (s : Stmt) : Type 0 where
  pub loops : List Loop
  pub body : Stmt
  pub nest : nest_of n s ≡ Some (loops, body)
  pub one : Access
  pub other : Access
  pub pair : IsToldPair ds sinks serial loops body told one other
  pub never : sinks ≡ [] → (outside outer : State) (us : List Vector) → first_turns serial outside ≡ Some outer → iterations loops outer ≡ Some us
      → NeverMeet (TouchesFirst loops outer us one) (TouchesFirst loops outer us other)

-- an access of the body has a number above 2^62, or a pair of it has; all pairs before are shown to be independent, or ordered by one of the loop's sinks
pub record PassesLimits (sinks : List Distance) (place : Place) (serial : List Loop) (n : ℕ) (s : Stmt) : Type 0 where
  pub loops : List Loop
  pub body : Stmt
  pub nest : nest_of n s ≡ Some (loops, body)
  pub round : Nesting
  pub now : Nesting
  pub outside : AreEntered no_loops serial round
  pub entered : AreEntered round loops now
  pub sites : List Site
  pub found : List pairs.Access
  pub counts : Nest
  pub tested : AreTested now (length round.levels) (map (λ v. v.most) (inner_loops 0 round.levels)) body sites found counts
  pub large : IsTooLarge counts sinks found place

-- what is told of a parallel loop with these sinks that is not shown, and nothing else: K19 of one without sinks, K20 or K21
abbrev pub IsToldOf : List Declaration → List Distance → Refusal → List Loop → ℕ → Stmt → Type 0
IsToldOf ds sinks r serial n s =
    ((c : told.Conflict) × (sinks ≡ []) × (r ≡ refusals.Conflict c) × IsConflict ds c serial n s)
    ⊎ (((a : not_shown.NotShown) × (r ≡ refusals.NotShown a) × IsNotFound ds sinks a serial n s)
    ⊎ ((place : Place) × (r ≡ refusals.Limit place) × PassesLimits sinks place serial n s))
