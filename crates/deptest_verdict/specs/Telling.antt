-- What is told of one pair of accesses of a loop's body.
use Rattle.std.specs.Prelude.{ℕ, ◌≡◌, ◌⊎◌, List, [], length, slice_get, Some, string_bytes}
use Rattle.semantics.specs.Tree.{Stmt, Items, mark, stmt, Declaration}
use Rattle.semantics.specs.Loops.Order.{Distance}
use Rattle.ktree.specs.declared.refusal.Refusal.{Refusal}
use Rattle.ktree.specs.declared.refusal.Refusal.TheVariants as refusals
use Rattle.ktree.specs.declared.refusal.NotShown as not_shown
use Rattle.ktree.specs.declared.refusal.Conflict as conflicts
use Rattle.affine_expr.specs.Faults.{refusal_of}
use Rattle.affine_expr.specs.declared.faults.Fault.{Fault}
use Rattle.pairtest_counter.specs.Levels.{Nesting}
use Rattle.nest_space.specs.Space.{IsSpace}
use Rattle.pairtest_access.specs.declared.told.Touched.{Touched}
use Rattle.pairtest_access.specs.Sites.{Site, Sites}
use Rattle.pairtest_access.specs.Found.{IsTold}
use Rattle.pairtest_access.specs.Refused.{IsStuck}
use Rattle.deptest_witness.specs.Touching.{NestAt, IsEntered, TouchesAt}
use Rattle.deptest_witness.specs.Pairs.{IsFirst, NeverMeet}
use Rattle.deptest_verdict.specs.declared.pairs.Pair.{Pair}
use Rattle.deptest_verdict.specs.Sinks.{LineSinks}
use Rattle.deptest_verdict.specs.Refused.{IsNameOf, touch_of, serial_loops, nest_loops, LineRefused, LoopsRefused}

-- a body has an access of this number
abbrev pub HasSite : Nesting → Stmt → ℕ → Type 0
HasSite now body number = (ss : List Site) × (s : Site) × Sites now body ss × (slice_get ss number ≡ Some s)

-- a pair by its array's name and the places of its accesses
pub record IsNamed (ds : List Declaration) (pair : Pair) (told : not_shown.NotShown) : Type 0 where
  pub array : IsNameOf ds pair.array.0 (string_bytes told.array)
  pub one_place : told.first ≡ pair.first_place
  pub other_place : told.second ≡ pair.second_place

-- what the access of this number touches
pub record IsTouchedBy (now : Nesting) (body : Stmt) (number : ℕ) (touched : Touched) : Type 0 where
  pub sites : List Site
  pub are : Sites now body sites
  pub told : IsTold (length now.levels) (slice_get sites number) (Some touched)

-- a pair's names, and what both of its accesses touch
pub record IsPairTold (ds : List Declaration) (now : Nesting) (body : Stmt) (pair : Pair) (told : not_shown.NotShown) : Type 0 where
  pub named : IsNamed ds pair told
  pub one_touched : Touched
  pub other_touched : Touched
  pub one_touches : IsTouchedBy now body pair.first one_touched
  pub other_touches : IsTouchedBy now body pair.second other_touched

-- of this pair: where the loop has no sink, the first two iterations at which both touch one element, or that there are none, or no first turn of a serial loop; where it is a doacross nest, its names alone
abbrev pub IsPairVerdict : List Declaration → Nesting → ℕ → List Distance → Stmt → Pair → Refusal → Type 0
IsPairVerdict ds now outer sinks body pair r =
    ((c : conflicts.Conflict) × (sinks ≡ []) × (r ≡ refusals.Conflict c) × (p : IsPairTold ds now body pair c.accesses)
    × (at : NestAt) × IsEntered (serial_loops outer now) (nest_loops outer now) at
    × IsFirst (TouchesAt at (touch_of p.one_touched)) (TouchesAt at (touch_of p.other_touched)) c.earlier c.later c.indexes.items)
    ⊎ ((a : not_shown.NotShown) × (r ≡ refusals.NotShown a) × (p : IsPairTold ds now body pair a)
    × (sinks ≡ [] → (at : NestAt) → IsEntered (serial_loops outer now) (nest_loops outer now) at → IsSpace at.turns
    → NeverMeet (TouchesAt at (touch_of p.one_touched)) (TouchesAt at (touch_of p.other_touched))))

-- memory ran out, or this is so of a refusal
abbrev pub OrMemory : (Refusal → Type 0) → Refusal → Type 0
OrMemory P r = (r ≡ refusals.OutOfMemory) ⊎ P r

-- a refusal tells a fault of something that is so
abbrev pub IsFaultOf : Type 0 → Refusal → Type 0
IsFaultOf P r = (f : Fault) × (r ≡ refusal_of f) × P

-- a body is refused for this pair, or for an access without forms
abbrev pub PairRefused : List Declaration → Nesting → ℕ → List Distance → Stmt → Pair → Refusal → Type 0
PairRefused ds now outer sinks body pair r = IsPairVerdict ds now outer sinks body pair r ⊎ IsFaultOf (IsStuck now body) r

-- the loop behind the first of these items is refused, where this is a directive line before others
abbrev pub FirstLineRefused : List ℕ → LineSinks → List Declaration → Nesting → Items → Items → Refusal → Type 0
FirstLineRefused text sinks ds round (mark line items) rest r = LineRefused text sinks ds round line rest r
FirstLineRefused text sinks ds round _ rest r = ⊥

-- a loop in the first of these items is refused, where this is a statement
abbrev pub FirstLoopsRefused : List ℕ → LineSinks → List Declaration → Nesting → Items → Refusal → Type 0
FirstLoopsRefused text sinks ds round (stmt s items) r = LoopsRefused text sinks ds round s r
FirstLoopsRefused text sinks ds round _ r = ⊥
