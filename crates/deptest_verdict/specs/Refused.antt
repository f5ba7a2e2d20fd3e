-- Why the test of pairs refuses a kernel: the first parallel loop, and there the first pair, that is not shown to be independent, nor ordered by a sink of the loop. (OpenMP 5.2, 1.4.1, 4.4.2, 11.5 and 15.9.6)
use Rattle.std.specs.Prelude.{ℕ, zero, suc, ◌≡◌, ◌⊎◌, false, List, [], length, map, reverse, take, drop, slice_get, Option, Some, None, string_bytes}
use Rattle.semantics.specs.Tree.{Variable, Stmt, Assign, Update, If, IfElse, For, Block, Print, Items, no_items, mark, local, stmt, Declaration, Kernel}
use Rattle.semantics.specs.Source.Text.{line_at}
use Rattle.semantics.specs.Loops.Nest.{Loop, as_loop}
use Rattle.semantics.specs.Loops.Order.{Distance}
use Rattle.ktree.specs.declared.refusal.Refusal.{Refusal}
use Rattle.ktree.specs.declared.refusal.Refusal.TheVariants as refusals
use Rattle.ktree.specs.declared.refusal.NotShown as not_shown
use Rattle.ktree.specs.declared.place.Place.{Place}
use Rattle.affine_expr.specs.Faults.{refusal_of}
use Rattle.affine_expr.specs.declared.faults.Fault.{Fault}
use Rattle.nest_loop.specs.declared.head.Canonical.{Canonical}
use Rattle.pairtest_counter.specs.Levels.{Nesting}
use Rattle.semantics.specs.Directives.Directive.{Schedule}
use Rattle.pragma.specs.Clauses.{ReadsLoop}
use Rattle.pragma.specs.Parallel.{associated}
use Rattle.nest_space.specs.Space.{IsSpace}
use Rattle.pairtest.specs.declared.access.Access as pairs
use Rattle.pairtest.specs.declared.access.Nest.{Nest}
use Rattle.pairtest_access.specs.declared.told.Touched.{Touched}
use Rattle.pairtest_access.specs.Sites.{Site, Sites, IsInside}
use Rattle.pairtest_access.specs.Found.{AreMet, IsTold, inner_loops}
use Rattle.pairtest_access.specs.Refused.{IsStuck}
use Rattle.deptest_witness.specs.Touching.{Access, NestAt, IsEntered, TouchesAt}
use Rattle.deptest_witness.specs.Pairs.{IsFirst, NeverMeet}
use Rattle.deptest_verdict.specs.Sinks.{LineSinks}
use Rattle.deptest_verdict.specs.Pairs.{AreShownBefore, IsFirstPair, IsLargeBehind}
use Rattle.deptest_verdict.specs.Shown.{no_loops, LineShown, LoopsShown}

-- the array's name, where the variable is declared
abbrev pub IsNameOf : List Declaration → Variable → List ℕ → Type 0
IsNameOf ds x bytes = (d : Declaration) → slice_get ds x ≡ Some d → bytes ≡ d.name

-- the accesses of a body, in order of place, as they are tested; of the loops round it the first so many are serial, with these greatest counts
pub record AreTested (now : Nesting) (outer : ℕ) (serial : List ℕ) (body : Stmt) (sites : List Site) (found : List pairs.Access) (nest : Nest) : Type 0 where
  pub are : Sites now body sites
  pub finds : AreMet (length now.levels) sites found
  pub counts : nest.serial.items ≡ serial
  pub loops : nest.loops.items ≡ map (λ v. v.most) (inner_loops outer now.levels)

-- what an access touches
abbrev pub touch_of : Touched → Access
touch_of t = record { subscripts = t.subscripts.items; inner = t.inner.items }

-- the first pair of a body's accesses that is not shown, where the loop has these sinks: by the array's name and the places of the two accesses, and what both touch
pub record IsFirstOf (ds : List Declaration) (now : Nesting) (outer : ℕ) (serial : List ℕ) (sinks : List Distance) (body : Stmt) (told : not_shown.NotShown) : Type 0 where
  pub sites : List Site
  pub found : List pairs.Access
  pub nest : Nest
  pub tested : AreTested now outer serial body sites found nest
  pub first : ℕ
  pub second : ℕ
  pub is : IsFirstPair nest sinks found first second
  pub one : pairs.Access
  pub other : pairs.Access
  pub one_is : slice_get found first ≡ Some one
  pub other_is : slice_get found second ≡ Some other
  pub array : IsNameOf ds one.array.0 (string_bytes told.array)
  pub one_place : told.first ≡ one.place
  pub other_place : told.second ≡ other.place
  pub one_touched : Touched
  pub other_touched : Touched
  pub one_touches : IsTold (length now.levels) (slice_get sites first) (Some one_touched)
  pub other_touches : IsTold (length now.levels) (slice_get sites second) (Some other_touched)

-- the serial loops round a body, and those of its nest, the outermost first
abbrev pub serial_loops : ℕ → Nesting → List Canonical
serial_loops outer now = take outer (map (λ v. v.canonical) (reverse now.levels))

abbrev pub nest_loops : ℕ → Nesting → List Canonical
nest_loops outer now = drop outer (map (λ v. v.canonical) (reverse now.levels))

-- of a body's first pair that is not shown: where the loop has no sink, the first two iterations at which both touch one element, or that there are none, or no first turn of a serial loop; where it is a doacross nest, that no sink orders the pair
abbrev pub IsVerdict : List Declaration → Nesting → ℕ → List ℕ → List Distance → Stmt → Refusal → Type 0
IsVerdict ds now outer serial sinks body (refusals.Conflict c) =
    (sinks ≡ []) × (p : IsFirstOf ds now outer serial sinks body c.accesses) × (at : NestAt) × IsEntered (serial_loops outer now) (nest_loops outer now) at
    × IsFirst (TouchesAt at (touch_of p.one_touched)) (TouchesAt at (touch_of p.other_touched)) c.earlier c.later c.indexes.items
IsVerdict ds now outer serial sinks body (refusals.NotShown a) =
    (p : IsFirstOf ds now outer serial sinks body a)
    × (sinks ≡ [] → (at : NestAt) → IsEntered (serial_loops outer now) (nest_loops outer now) at → IsSpace at.turns
    → NeverMeet (TouchesAt at (touch_of p.one_touched)) (TouchesAt at (touch_of p.other_touched)))
IsVerdict ds now outer serial sinks body _ = ⊥

-- an access that is not counted, or that has a pair whose equations have a number above 2^62; all before are shown
pub record IsTooLarge (nest : Nest) (sinks : List Distance) (found : List pairs.Access) (place : Place) : Type 0 where
  pub first : ℕ
  pub before : AreShownBefore nest sinks found first
  pub one : pairs.Access
  pub one_is : slice_get found first ≡ Some one
  pub large : (one.is_counted ≡ false) ⊎ IsLargeBehind nest sinks one (drop first found)
  pub at : place ≡ one.place

-- a body is refused for a pair, for numbers that are too large, or for an access without forms
abbrev pub BodyRefused : List Declaration → Nesting → ℕ → List ℕ → List Distance → Stmt → Refusal → Type 0
BodyRefused ds now outer serial sinks body r =
    IsVerdict ds now outer serial sinks body r
    ⊎ (((sites : List Site) × (found : List pairs.Access) × (nest : Nest) × (place : Place)
    × AreTested now outer serial body sites found nest × IsTooLarge nest sinks found place × (r ≡ refusals.Limit place))
    ⊎ ((f : Fault) × (r ≡ refusal_of f) × IsStuck now body))

-- neither of the two refusals that name a pair
abbrev pub NamesNoPair : Refusal → Type 0
NamesNoPair (refusals.Conflict c) = ⊥
NamesNoPair (refusals.NotShown a) = ⊥
NamesNoPair _ = Unit {0}

-- the body inside so many loops more is refused, each directly in the other, or they are not there
abbrev pub NestRefused : List Declaration → Nesting → ℕ → List ℕ → List Distance → ℕ → Stmt → Refusal → Type 0
NestRefused ds now outer serial sinks zero s r = BodyRefused ds now outer serial sinks s r
NestRefused ds now outer serial sinks (suc n) s r =
    (NamesNoPair r × (as_loop s ≡ None))
    ⊎ ((h : Loop) × (body : Stmt) × (as_loop s ≡ Some (h, body))
    × (inner : Nesting) × IsInside now h.variable h.start h.test h.step body inner × NestRefused ds inner outer serial sinks n body r)

-- a parallel loop of so many associated loops inside serial loops, with these sinks, is refused
abbrev pub LoopRefused : List Declaration → Nesting → List Distance → ℕ → Stmt → Refusal → Type 0
LoopRefused ds round sinks n s r = NestRefused ds round (length round.levels) (map (λ v. v.most) (inner_loops 0 round.levels)) sinks n s r

-- the loop that stands first is refused, or there is none
abbrev pub RefusedFirst : List Declaration → Nesting → List Distance → ℕ → Items → Refusal → Type 0
RefusedFirst ds round sinks n no_items r = NamesNoPair r
RefusedFirst ds round sinks n (mark line rest) r = NamesNoPair r
RefusedFirst ds round sinks n (local x name start rest) r = NamesNoPair r
RefusedFirst ds round sinks n (stmt s rest) r = LoopRefused ds round sinks n s r

-- the loop behind a line, with the sinks of this line, is refused, or the line is no `parallel for`
abbrev pub LineRefused : List ℕ → LineSinks → List Declaration → Nesting → ℕ → Items → Refusal → Type 0
LineRefused text sinks ds round line rest r =
    (NamesNoPair r × ((k : Option Schedule) (c : Option ℕ) → ReadsLoop (line_at text line) k c → ⊥))
    ⊎ ((k : Option Schedule) × (c : Option ℕ) × ReadsLoop (line_at text line) k c × RefusedFirst ds round (sinks line) (associated c) rest r)

abbrev mutual
  -- the first parallel loop in a statement that is not shown is refused; those before it are
  pub LoopsRefused : List ℕ → LineSinks → List Declaration → Nesting → Stmt → Refusal → Type 0
  LoopsRefused text sinks ds round (Assign x is e) r = ⊥
  LoopsRefused text sinks ds round (Update x is op e) r = ⊥
  LoopsRefused text sinks ds round (If c a) r = LoopsRefused text sinks ds round a r
  LoopsRefused text sinks ds round (IfElse c a b) r = LoopsRefused text sinks ds round a r ⊎ (LoopsShown text sinks round a × LoopsRefused text sinks ds round b r)
  LoopsRefused text sinks ds round (For x name start test step body) r =
      (inner : Nesting) × IsInside round x start test step body inner × LoopsRefused text sinks ds inner body r
  LoopsRefused text sinks ds round (Block items) r = ItemsRefused text sinks ds round items r
  LoopsRefused text sinks ds round (Print parts) r = ⊥

  -- in a block's items
  pub ItemsRefused : List ℕ → LineSinks → List Declaration → Nesting → Items → Refusal → Type 0
  ItemsRefused text sinks ds round no_items r = ⊥
  ItemsRefused text sinks ds round (mark line rest) r = LineRefused text sinks ds round line rest r ⊎ (LineShown text sinks round line rest × ItemsRefused text sinks ds round rest r)
  ItemsRefused text sinks ds round (local x name start rest) r = ItemsRefused text sinks ds round rest r
  ItemsRefused text sinks ds round (stmt s rest) r = LoopsRefused text sinks ds round s r ⊎ (LoopsShown text sinks round s × ItemsRefused text sinks ds round rest r)

-- memory ran out, or the first parallel loop of a kernel that is not shown is refused
abbrev pub IsRefused : List ℕ → LineSinks → Kernel → Refusal → Type 0
IsRefused text sinks k r = (r ≡ refusals.OutOfMemory) ⊎ ItemsRefused text sinks k.variables no_loops k.body r
