-- What is so of locals is so of scalars at file scope in their place.
use Rattle.std.specs.Prelude.{ℕ, suc, Bool, true, false, ◌≡◌, ◌==◌, ◌&&◌, List, [], ◌∷◌, length, map, Option, Some, None}
use Rattle.std.specs.List.{AllByRecursion as Each}
use Rattle.std.proofs.Common.{refl, sym, ap, ◌∙◌, subst, cond, inl, inr}
use Rattle.std.proofs.lemmas.Bool.{true≢false, eqb-true}
use Rattle.semantics.specs.Tree.{Variable, Stmt}
use Rattle.semantics.specs.Meaning.State.{State, Slot, Outside, Empty, Holds, Write, Declared, Assigned, renewed, same_indexes, assign_at, is_object, is_object_in, written, overwritten, look}
use Rattle.semantics.specs.Meaning.Value.{map_option}
use Rattle.semantics.specs.Meaning.Runs.{Effect, run}
use Rattle.semantics.specs.Meaning.Agrees.{is_among}
use Rattle.semantics.specs.Loops.Nest.{Loop, Vector}
use Rattle.semantics.specs.Loops.Operator.{ReduceOp}
use Rattle.semantics.specs.Loops.Piece.{Roles, is_outside}
use Rattle.semantics.specs.Loops.Joined.{given}
use Rattle.semantics.specs.Loops.Scan.{start_of}
use Rattle.law_nests.specs.Walks.{walk}
use Rattle.law_nests.specs.Merging.{Cells}
use Rattle.law_private.proofs.Alike.{Both}
use Rattle.law_roles.specs.Sharing.{role_variables, IsScalar, begins_with, MergesAt, last_filled, unless_same}
use Rattle.law_roles.proofs.Moved.{Moved, moved_look, moved_assigned, moved_stmt, moved_walk}
use Rattle.law_roles.proofs.Joining.{each_filled}
use Rattle.law_roles.proofs.Seen.{look_of}
use Rattle.law_roles.proofs.Starts.{roles_with}
use Rattle.law_starts.specs.Begun.{begun}
use Rattle.law_starts.proofs.Beginning.{given_only}
use Rattle.law_scans.specs.Passes.{walks_from}
use Rattle.law_scans.specs.Scanning.{scan_partials, scan_starts, ScansFrom}
use Rattle.law_scans.proofs.Beginning.{starts_of, starts_are}
use Rattle.law_scans.proofs.Steps.{same_slot}
use Rattle.law_commute.proofs.Lists.{first_there, others_there}

-- ---- the same writes to one object

pub same_object : (y : Variable) (ws : List Write) (a b : State) (is : List ℕ) → a.locals y ≡ b.locals y → a.cells y is ≡ b.cells y is → (overwritten a ws).cells y is ≡ (overwritten b ws).cells y is
same_object y [] a b is h e = e
same_object y (w ∷ ws) a b is h e = same_object y ws (written a w) (written b w) is (same_slot y (w ∷ []) a b h) (one w)
  where
    put : (z : Variable) (js : List ℕ) (n : ℕ) (c : Bool) → (y == z) ≡ c → (assign_at (a.locals z) a z js n).cells y is ≡ (assign_at (b.locals z) b z js n).cells y is
    put z js n true k =
        let here : a.locals z ≡ b.locals z = subst (λ w. a.locals w ≡ b.locals w) (eqb-true y z k) h in
        ap (λ l. (assign_at l a z js n).cells y is) here ∙ at (b.locals z)
      where
        at : (l : Slot) → (assign_at l a z js n).cells y is ≡ (assign_at l b z js n).cells y is
        at Outside = ap (λ c. cond ((y == z) && same_indexes is js) (renewed c n) c) e
        at Empty = e
        at (Holds m) = e
    put z js n false k = still (a.locals z) a ∙ e ∙ sym (still (b.locals z) b)
      where
        still : (l : Slot) (s : State) → (assign_at l s z js n).cells y is ≡ s.cells y is
        still Outside s = ap (λ c. cond (c && same_indexes is js) (renewed (s.cells y is) n) (s.cells y is)) k
        still Empty s = refl
        still (Holds m) s = refl

    one : (w : Write) → (written a w).cells y is ≡ (written b w).cells y is
    one (Declared z v) = e
    one (Assigned z js n) = put z js n (y == z) refl

-- a scalar is an object
pub scalar_object : (s : State) (x : Variable) → IsScalar s x → is_object s x [] ≡ true
scalar_object s x (inl up) = at (s.locals x) up
  where
    at : (l : Slot) → is_outside l ≡ false → is_object_in l s x [] ≡ true
    at Outside h = absurd (true≢false h)
    at Empty h = refl
    at (Holds n) h = refl
scalar_object s x (inr f) = ap (λ l. is_object_in l s x []) f.outside ∙ f.there

module _ (privates lasts : List Variable) (x : Variable) (op : ReduceOp) (s : Stmt) (loops : List Loop) (first body : Stmt) (chunks : List (List Vector)) (outer o : State) (e : Effect)
    (m : Moved (role_variables (roles_with privates lasts ((x, op) ∷ []))) outer o) (there : is_object outer x [] ≡ true) (apart : (y : Variable) → is_among lasts y ≡ true → (y == x) ≡ false)
    (ran : run s outer ≡ Some e) (inner : ScansFrom (roles_with privates lasts ((x, op) ∷ [])) x op s loops first body chunks o e) where
  abbrev roles : Roles
  roles = roles_with privates lasts ((x, op) ∷ [])

  abbrev vars : List Variable
  vars = role_variables roles

  abbrev P : List (Option ℕ)
  P = scan_partials roles x o inner.firsts

  seen : look outer x [] ≡ look o x []
  seen = moved_look vars outer o m x []

  given_moved : (q : Option ℕ) → Moved vars (given outer x q) (given o x q)
  given_moved None = m
  given_moved (Some w) = moved_assigned vars outer o m x [] w there

  begun_moved : Moved vars (begun roles outer) (begun roles o)
  begun_moved = subst (λ q. Moved vars (given outer x (map_option (begins_with op) q)) (begun roles o)) (sym seen) (given_moved (map_option (begins_with op) (look o x [])))

  -- ---- the first pass

  abbrev Same : Effect → Type 0
  Same f = Moved vars (overwritten (begun roles outer) f.writes) (overwritten (begun roles o) f.writes)

  record Firsts (cs : List (List Vector)) (fs : List Effect) : Type 0 where
    each : map (λ us. walk loops first us (begun roles outer)) cs ≡ map Some fs
    same : Each Same fs

  firsts_of : (cs : List (List Vector)) (fs : List Effect) → map (λ us. walk loops first us (begun roles o)) cs ≡ map Some fs → Firsts cs fs
  firsts_of [] [] k = record { each = refl; same = tt }
  firsts_of [] (f ∷ fs) k = absurd cc
  firsts_of (us ∷ cs) [] k = absurd cc
  firsts_of (us ∷ cs) (f ∷ fs) k =
      let both : Both (Moved vars) (begun roles outer) (begun roles o) (walk loops first us (begun roles outer)) (walk loops first us (begun roles o)) = moved_walk vars loops first us (begun roles outer) (begun roles o) begun_moved in
      let is : walk loops first us (begun roles outer) ≡ Some f = both.same ∙ first_there (λ (vs : List Vector). walk loops first vs (begun roles o)) us cs f fs k in
      let rest = firsts_of cs fs (others_there (λ (vs : List Vector). walk loops first vs (begun roles o)) us cs f fs k) in
      record { each = λ i. is i ∷ rest.each i; same = (both.left f is, rest.same) }

  firsts : Firsts chunks inner.firsts
  firsts = firsts_of chunks inner.firsts inner.first_pass

  same_partials : (fs : List Effect) → Each Same fs → scan_partials roles x outer fs ≡ scan_partials roles x o fs
  same_partials [] h = refl
  same_partials (f ∷ fs) h =
      λ i. unless_same (moved_look vars (begun roles outer) (begun roles o) begun_moved x [] i) (moved_look vars (overwritten (begun roles outer) f.writes) (overwritten (begun roles o) f.writes) h.0 x [] i) ∷ same_partials fs h.1 i

  partials_are : scan_partials roles x outer inner.firsts ≡ P
  partials_are = same_partials inner.firsts firsts.same

  -- ---- the second pass

  abbrev Second : Effect → Type 0
  Second f = (q : Option ℕ) × Moved vars (overwritten (given outer x q) f.writes) (overwritten (given o x q) f.writes)

  record Seconds (c : ℕ) (cs : List (List Vector)) (fs : List Effect) : Type 0 where
    each : walks_from loops body (starts_of x op outer P c cs) cs ≡ map Some fs
    same : Each Second fs

  seconds_of : (c : ℕ) (cs : List (List Vector)) (fs : List Effect) → walks_from loops body (starts_of x op o P c cs) cs ≡ map Some fs → Seconds c cs fs
  seconds_of c [] [] k = record { each = refl; same = tt }
  seconds_of c [] (f ∷ fs) k = absurd cc
  seconds_of c (us ∷ cs) [] k = absurd cc
  seconds_of c (us ∷ cs) (f ∷ fs) k =
      let q = start_of op (look o x []) P c in
      let both : Both (Moved vars) (given outer x q) (given o x q) (walk loops body us (given outer x q)) (walk loops body us (given o x q)) = moved_walk vars loops body us (given outer x q) (given o x q) (given_moved q) in
      let is : walk loops body us (given outer x q) ≡ Some f = both.same ∙ head k in
      let rest = seconds_of (suc c) cs fs (tail k) in
      record {
        each = λ i. (ap (λ p. walk loops body us (given outer x (start_of op p P c))) seen ∙ is) i ∷ rest.each i;
        same = ((q, both.left f is), rest.same);
      }
    where
      head : walks_from loops body (starts_of x op o P c (us ∷ cs)) (us ∷ cs) ≡ map Some (f ∷ fs) → walk loops body us (given o x (start_of op (look o x []) P c)) ≡ Some f
      head k = cc

      tail : walks_from loops body (starts_of x op o P c (us ∷ cs)) (us ∷ cs) ≡ map Some (f ∷ fs) → walks_from loops body (starts_of x op o P (suc c) cs) cs ≡ map Some fs
      tail k = cc

  seconds : Seconds 0 chunks inner.seconds
  seconds = seconds_of 0 chunks inner.seconds (ap (λ ts. walks_from loops body ts chunks) (starts_are x op o P chunks) ∙ inner.second_pass)

  -- ---- what is left

  left : Moved vars (overwritten outer e.writes) (overwritten o e.writes)
  left = (moved_stmt vars s outer o m).left e ran

  same_left : (y : Variable) (is : List ℕ) (f : Effect) → is_among vars y ≡ false → (overwritten outer f.writes).cells y is ≡ (overwritten o f.writes).cells y is
  same_left y is f h = same_object y f.writes outer o is (m.locals y h) (m.cells y is h)

  merges_on : (after : Cells) (y : Variable) (is : List ℕ) → is_among vars y ≡ false → MergesAt outer inner.seconds after y is → MergesAt o inner.seconds after y is
  merges_on after y is h (inl none) = inl (
    λ k f j. sym (same_left y is f h) ∙ none.0 k f j ∙ m.cells y is h,
    none.1 ∙ m.cells y is h,
  )
  merges_on after y is h (inr c) =
      let same = same_left y is c.effect h in
      inr (record { number = c.number; effect = c.effect; among = c.among; changes = λ k. c.changes (same ∙ k ∙ sym (m.cells y is h)); leaves = c.leaves ∙ same })

  seen_left : (y : Variable) → look (overwritten outer e.writes) y [] ≡ look (overwritten o e.writes) y []
  seen_left y = moved_look vars (overwritten outer e.writes) (overwritten o e.writes) left y []

  -- a variable apart from that of the scan, wherever this begins
  anywhere : (t : State) (q : Option ℕ) (y : Variable) (f : Effect) → (y == x) ≡ false → look (overwritten (given t x q) f.writes) y [] ≡ look (overwritten t f.writes) y []
  anywhere t q y f h =
      let only = given_only t x q in
      look_of y (overwritten (given t x q) f.writes) (overwritten t f.writes) (same_slot y f.writes (given t x q) t (only.locals y h))
      (λ is. same_object y f.writes (given t x q) t is (only.locals y h) (only.cells y is h)) []

  last_same : (y : Variable) (f : Effect) → is_among lasts y ≡ true → last_filled chunks inner.seconds ≡ Some f → look (overwritten o f.writes) y [] ≡ look (overwritten outer f.writes) y []
  last_same y f h filled =
      let own = each_filled Second chunks inner.seconds seconds.same f filled in
      sym (anywhere o own.0 y f (apart y h)) ∙ sym (moved_look vars (overwritten (given outer x own.0) f.writes) (overwritten (given o x own.0) f.writes) own.1 y []) ∙ anywhere outer own.0 y f (apart y h)

  pub carried : ScansFrom roles x op s loops first body chunks outer e
  carried = record {
    firsts = inner.firsts;
    first_pass = firsts.each;
    seconds = inner.seconds;
    second_pass =
        ap (λ ps. walks_from loops body (scan_starts x op outer ps (length chunks)) chunks) partials_are
        ∙ ap (λ ts. walks_from loops body ts chunks) (sym (starts_are x op outer P chunks)) ∙ seconds.each;
    merge = λ after merges y is h. inner.merge after (λ z js k. merges_on after z js k (merges z js k)) y is h ∙ sym (left.cells y is h);
    value = seen_left x ∙ inner.value ∙ (λ i. start_of op (sym seen i) (sym partials_are i) (length chunks));
    lasts = λ y f h filled. seen_left y ∙ inner.lasts y f h filled ∙ last_same y f h filled;
    filled = inner.filled;
    no_last = λ y h none. seen_left y ∙ inner.no_last y h none ∙ sym (moved_look vars outer o m y []);
    locals = λ y seen other. left.locals y other ∙ inner.locals y seen other ∙ sym (m.locals y other);
    text = inner.text;
  }
