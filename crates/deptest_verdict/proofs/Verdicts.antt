-- What is told of a pair of accesses, from what was found of both.
use Rattle.std.specs.Prelude.{ℕ, ℤ, ◌≡◌, ◌-◌, List, [], ◌∷◌, length, map, reverse, take, drop, slice_get, Option, Some, None, IfNone, IfSome}
use Rattle.std.proofs.Common.{inl, inr, refl, ap, ◌∙◌, subst, arith, Vec, Global}
use Rattle.std.proofs.Math.Seq.{take-length}
use Rattle.std.proofs.lemmas.Option.{same_Some}
use Rattle.semantics.specs.Tree.{Stmt, Declaration}
use Rattle.semantics.specs.Loops.Order.{Distance}
use Rattle.ktree.specs.declared.refusal.Refusal.TheVariants as refusals
use Rattle.ktree.specs.declared.refusal.NotShown as not_shown
use Rattle.affine.specs.Affine.{Affine}
use Rattle.nest_loop.specs.declared.head.Canonical.{Canonical}
use Rattle.pairtest_counter.specs.declared.level.EnclosingLoop.{EnclosingLoop}
use Rattle.pairtest_counter.specs.Levels.{Nesting}
use Rattle.nest_space.specs.Space.{IsSpace}
use Rattle.pairtest_access.specs.declared.told.Touched.{Touched}
use Rattle.pairtest_access.specs.Sites.{Site, Sites}
use Rattle.pairtest_access.specs.Found.{IsTold, inner_loops}
use Rattle.deptest_witness.specs.declared.meeting.Meeting.{Meeting}
use Rattle.deptest_witness.specs.Touching.{Access, NestAt, IsEntered, TouchesAt}
use Rattle.deptest_witness.specs.Pairs.{IsFirst, NeverMeet}
use Rattle.deptest_verdict.specs.declared.pairs.Pair.{Pair}
use Rattle.deptest_verdict.specs.Sinks.{distances_of}
use Rattle.deptest_verdict.specs.Refused.{serial_loops, nest_loops, touch_of}
use Rattle.deptest_verdict.specs.Telling.{HasSite, IsNamed, IsTouchedBy, IsPairTold, IsPairVerdict}
use Rattle.deptest_verdict.proofs.Same.{sites_are_unique}

-- an access that is there is found
pub is_there : (now : Nesting) (body : Stmt) (number : ℕ) (ss : List Site) (o : Option Touched) → HasSite now body number → Sites now body ss → IsTold (length now.levels) (slice_get ss number) o → o ≡ None → ⊥
is_there now body number ss o (ts, s, are, there) sites told e =
    let here : slice_get ss number ≡ Some s = ap (λ (us : List Site). slice_get us number) (sites_are_unique now body ss ts sites are) ∙ there in
    subst (IsTold (length now.levels) (Some s)) e (subst (λ (p : Option Site). IsTold (length now.levels) p o) here told)

-- ---- iterations

-- wherever a nest is entered, they never meet
abbrev pub NeverAt : List Canonical → List Canonical → Access → Access → Type 0
NeverAt serial nest x y = (at : NestAt) → IsEntered serial nest at → IsSpace at.turns → NeverMeet (TouchesAt at x) (TouchesAt at y)

-- where a nest is entered, these are the first two at which they meet
abbrev pub FirstAt : List Canonical → List Canonical → Access → Access → Meeting → Type 0
FirstAt serial nest x y m = (at : NestAt) × IsEntered serial nest at × IsFirst (TouchesAt at x) (TouchesAt at y) m.earlier m.later m.indexes.items

-- the same loops and accesses
pub never_as : (o : Option Meeting) (ss ss' ns ns' : List Canonical) (fs fs' gs gs' : List Affine) (is is' js js' : List Canonical) → ss ≡ ss' → ns ≡ ns' → fs ≡ fs' → is ≡ is' → gs ≡ gs' → js ≡ js'
    → IfNone o (NeverAt ss ns (record { subscripts = fs; inner = is }) (record { subscripts = gs; inner = js }))
    → IfNone o (NeverAt ss' ns' (record { subscripts = fs'; inner = is' }) (record { subscripts = gs'; inner = js' }))
never_as o ss ss' ns ns' fs fs' gs gs' is is' js js' a b c d e f h =
    subst (λ (js : List Canonical). IfNone o (NeverAt ss' ns' (record { subscripts = fs'; inner = is' }) (record { subscripts = gs'; inner = js }))) f
    (subst (λ (gs : List Affine). IfNone o (NeverAt ss' ns' (record { subscripts = fs'; inner = is' }) (record { subscripts = gs; inner = js }))) e
    (subst (λ (is : List Canonical). IfNone o (NeverAt ss' ns' (record { subscripts = fs'; inner = is }) (record { subscripts = gs; inner = js }))) d
    (subst (λ (fs : List Affine). IfNone o (NeverAt ss' ns' (record { subscripts = fs; inner = is }) (record { subscripts = gs; inner = js }))) c
    (subst (λ (ns : List Canonical). IfNone o (NeverAt ss' ns (record { subscripts = fs; inner = is }) (record { subscripts = gs; inner = js }))) b
    (subst (λ (ss : List Canonical). IfNone o (NeverAt ss ns (record { subscripts = fs; inner = is }) (record { subscripts = gs; inner = js }))) a h)))))

-- all loops round a body, the outermost first
all_loops : (now : Nesting) (loops : List Canonical) → loops ≡ map (λ v. v.canonical) (inner_loops 0 now.levels) → loops ≡ map (λ v. v.canonical) (reverse now.levels)
all_loops now loops e =
    let whole : take (length now.levels - 0) now.levels ≡ now.levels = ap (λ (n : ℕ). take n now.levels) (the_whole (length now.levels)) ∙ take-length now.levels in
    e ∙ ap (λ (vs : List EnclosingLoop). map (λ v. v.canonical) (reverse vs)) whole
  where
    the_whole : (n : ℕ) → n - 0 ≡ n
    the_whole n = omega arith

none_met : (P : Type 0) (o : Option Meeting) → IfNone o P → o ≡ None → P
none_met P None h e = h
none_met P (Some m) h e = absurd (cc e)

some_met : (P : Meeting → Type 0) (o : Option Meeting) (m : Meeting) → IfSome o P → o ≡ Some m → P m
some_met P None m h e = absurd (cc e)
some_met P (Some n) m h e = subst P (same_Some n m e) h

-- ---- the pair

-- the second access is told with the loops as they were
pub as_before : (now then : Nesting) (body : Stmt) (number : ℕ) (t : Touched) → then ≡ now → IsTouchedBy then body number t → IsTouchedBy now body number t
as_before now then body number t e h = subst (λ (n : Nesting). IsTouchedBy n body number t) e h

abbrev pair_told : (ds : List Declaration) (now : Nesting) (body : Stmt) (pair : Pair) (told : not_shown.NotShown) (x y : Touched) → IsNamed ds pair told → IsTouchedBy now body pair.first x
    → IsTouchedBy now body pair.second y → IsPairTold ds now body pair told
pair_told ds now body pair told x y named one other = record { named = named; one_touched = x; other_touched = y; one_touches = one; other_touches = other }

-- that there are no such iterations
pub never_told : (ds : List Declaration) (now : Nesting) (outer : ℕ) (sinks : List Distance) (body : Stmt) (pair : Pair) (told : not_shown.NotShown) (x y : Touched) (loops : List Canonical) (o : Option Meeting) → IsNamed ds pair told
    → IsTouchedBy now body pair.first x → IsTouchedBy now body pair.second y → loops ≡ map (λ v. v.canonical) (inner_loops 0 now.levels)
    → IfNone o (NeverAt (take outer loops) (drop outer loops) (touch_of x) (touch_of y)) → o ≡ None → IsPairVerdict ds now outer sinks body pair (refusals.NotShown told)
never_told ds now outer sinks body pair told x y loops o named one other e h none = inr (
  told,
  refl,
  pair_told ds now body pair told x y named one other,
  λ none_named. subst (λ (ls : List Canonical). NeverAt (take outer ls) (drop outer ls) (touch_of x) (touch_of y)) (all_loops now loops e)
      (none_met (NeverAt (take outer loops) (drop outer loops) (touch_of x) (touch_of y)) o h none),
)

-- the first of them
pub first_told : (ds : List Declaration) (now : Nesting) (outer : ℕ) (sinks : List Distance) (body : Stmt) (pair : Pair) (told : not_shown.NotShown) (x y : Touched) (loops : List Canonical) (o : Option Meeting) (m : Meeting)
    → IsNamed ds pair told → IsTouchedBy now body pair.first x → IsTouchedBy now body pair.second y → loops ≡ map (λ v. v.canonical) (inner_loops 0 now.levels) → sinks ≡ []
    → IfSome o (FirstAt (take outer loops) (drop outer loops) (touch_of x) (touch_of y)) → o ≡ Some m
    → IsPairVerdict ds now outer sinks body pair (refusals.Conflict (record { accesses = told; earlier = m.earlier; later = m.later; indexes = m.indexes }))
first_told ds now outer sinks body pair told x y loops o m named one other e no_sink h some =
    let first : FirstAt (serial_loops outer now) (nest_loops outer now) (touch_of x) (touch_of y) m =
    subst (λ (ls : List Canonical). FirstAt (take outer ls) (drop outer ls) (touch_of x) (touch_of y) m) (all_loops now loops e)
    (some_met (FirstAt (take outer loops) (drop outer loops) (touch_of x) (touch_of y)) o m h some) in
    inl (record { accesses = told; earlier = m.earlier; later = m.later; indexes = m.indexes }, no_sink, refl, pair_told ds now body pair told x y named one other, first.0, first.1, first.2)

-- a pair of a loop with a sink
pub named_alone : (ds : List Declaration) (now : Nesting) (outer : ℕ) (sinks : List Distance) (body : Stmt) (pair : Pair) (told : not_shown.NotShown) (x y : Touched) → IsNamed ds pair told
    → IsTouchedBy now body pair.first x → IsTouchedBy now body pair.second y → (sinks ≡ [] → ⊥) → IsPairVerdict ds now outer sinks body pair (refusals.NotShown told)
named_alone ds now outer sinks body pair told x y named one other some = inr (told, refl, pair_told ds now body pair told x y named one other, λ none_named. absurd (some none_named))

-- the code's sinks are none where those that are meant are
pub none_meant : (sinks : List (Vec ℤ Global)) → distances_of sinks ≡ [] → length sinks ≡ 0
none_meant [] e = refl
none_meant (d ∷ ds) e = absurd (cc e)

pub none_held : (sinks : List (Vec ℤ Global)) → length sinks ≡ 0 → distances_of sinks ≡ []
none_held [] e = refl
none_held (d ∷ ds) e = absurd (cc e)
