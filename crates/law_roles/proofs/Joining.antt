-- Chunks with roles, from the state before the nest.
use Rattle.std.specs.Prelude.{ℕ, zero, suc, Bool, true, false, ◌≡◌, ◌⊎◌, List, [], ◌∷◌, map, Option, Some, None, IsSome, slice_get}
use Rattle.std.specs.List.{AllByRecursion as Each}
use Rattle.std.proofs.Common.{refl, sym, ap, ◌∙◌, subst, cond, inl, inr}
use Rattle.std.proofs.lemmas.Bool.{true≢false}
use Rattle.std.proofs.lemmas.Option.{same_Some, none-some}
use Rattle.semantics.specs.Tree.{Variable, Stmt}
use Rattle.semantics.specs.Meaning.State.{State, Slot, Outside, Empty, Holds, slot_of, is_there, overwritten, look}
use Rattle.semantics.specs.Meaning.Runs.{Effect, run}
use Rattle.semantics.specs.Meaning.Agrees.{is_among}
use Rattle.semantics.specs.Loops.Nest.{Loop, Vector, at_vector}
use Rattle.semantics.specs.Loops.Arrangement.{picked}
use Rattle.semantics.specs.Loops.Operator.{ReduceOp, combined, combined_all}
use Rattle.semantics.specs.Loops.Piece.{Roles, chunk_start, is_outside}
use Rattle.law_nests.specs.Walks.{walk}
use Rattle.law_nests.specs.Merging.{Cells}
use Rattle.law_private.proofs.Alike.{Both}
use Rattle.law_roles.specs.Updates.{operator_of, operands}
use Rattle.law_roles.specs.Reducing.{partial_of}
use Rattle.law_roles.specs.Sharing.{TakesOperands, role_variables, IsScalar, MergesAt, last_filled, or_filled, updated_from, SharesFrom, SharesOut, IsShared, RoleChunksJoin, begins_with, unless_same, changed_from, MayStart, RoleChunksJoinInPlace}
use Rattle.law_roles.proofs.Shadow.{hit}
use Rattle.law_roles.proofs.Moved.{Kept, Shifted, Moved, moved_look, moved_stmt, moved_walk, moved_at, moved_iterations, moved_conflict}
use Rattle.law_roles.proofs.Shifting.{folded_partial}
use Rattle.law_roles.proofs.Partials.{Counts, in_place_counts}
use Rattle.law_roles.proofs.Starts.{roles_with, start_moved, StartsIn, start_in, identity_seen}
use Rattle.law_roles.proofs.Chunked.{counts_of}
use Rattle.law_roles.proofs.Shared.{Ground, CountsAs, shares}
use Rattle.law_commute.proofs.Lists.{first_there, others_there}

-- ---- these variables as locals

pub held_slot : Slot → Option ℕ → Slot
held_slot Outside c = slot_of c
held_slot Empty c = Empty
held_slot (Holds n) c = Holds n

module _ (vars : List Variable) (s : State) where
  abbrev pub localized : State
  localized = record { cells = λ x is. cond (is_among vars x) None (s.cells x is); locals = λ x. cond (is_among vars x) (held_slot (s.locals x) (s.cells x [])) (s.locals x) }

  pub localized_inside : (x : Variable) → is_among vars x ≡ true → is_outside (localized.locals x) ≡ false
  unfolding held_slot
  localized_inside x h = ap (λ b. is_outside (cond b (held_slot (s.locals x) (s.cells x [])) (s.locals x))) h ∙ at (s.locals x) (s.cells x [])
    where
      at : (l : Slot) (c : Option ℕ) → is_outside (held_slot l c) ≡ false
      at Outside None = refl
      at Outside (Some n) = refl
      at Empty c = refl
      at (Holds n) c = refl

  pub localized_moved : ((x : Variable) → is_among vars x ≡ true → IsScalar s x) → Moved vars s localized
  unfolding held_slot
  localized_moved scalars = record {
    locals = λ x h. sym (ap (λ b. cond b (held_slot (s.locals x) (s.cells x [])) (s.locals x)) h);
    cells = λ x is h. sym (ap (λ b. cond b None (s.cells x is)) h);
    theirs = λ x h. at x h (scalars x h);
  }
    where
      slot : (x : Variable) → is_among vars x ≡ true → localized.locals x ≡ held_slot (s.locals x) (s.cells x [])
      slot x h = ap (λ b. cond b (held_slot (s.locals x) (s.cells x [])) (s.locals x)) h

      same : (l : Slot) (c : Option ℕ) → is_outside l ≡ false → l ≡ held_slot l c
      same Outside c h = absurd (true≢false h)
      same Empty c h = refl
      same (Holds n) c h = refl

      number : (o : Option ℕ) → is_there o ≡ true → (n : ℕ) × (o ≡ Some n)
      number None h = absurd (true≢false (sym h))
      number (Some n) h = (n, refl)

      at : (x : Variable) → is_among vars x ≡ true → IsScalar s x → Kept x s localized ⊎ Shifted x s localized
      at x h (inl up) = inl (record { same = same (s.locals x) (s.cells x []) up ∙ sym (slot x h); inside = localized_inside x h })
      at x h (inr f) =
          let n = number (s.cells x []) f.there in
          inr (record { outside = f.outside; number = n.0; holds = slot x h ∙ ap (λ l. held_slot l (s.cells x [])) f.outside ∙ ap slot_of n.1; cell = n.1; scalar = f.alone })

-- ---- lists

each_slice : {A : Type 0} (P : A → Type 0) (xs : List A) → Each P xs → (k : ℕ) (x : A) → slice_get xs k ≡ Some x → P x
each_slice P [] h k x is = absurd (none-some x is)
each_slice P (y ∷ xs) h zero x is = subst P (same_Some y x is) h.0
each_slice P (y ∷ xs) h (suc k) x is = each_slice P xs h.1 k x is

pub each_filled : (P : Effect → Type 0) (chunks : List (List Vector)) (fs : List Effect) → Each P fs → (f : Effect) → last_filled chunks fs ≡ Some f → P f
each_filled P [] fs h f is = absurd (none-some f is)
each_filled P (us ∷ chunks) [] h f is = absurd (none-some f is)
each_filled P (us ∷ chunks) (g ∷ fs) h f is = at us (last_filled chunks fs) refl is (λ k. each_filled P chunks fs h.1 f k)
  where
    at : (us : List Vector) (p : Option Effect) → last_filled chunks fs ≡ p → or_filled us g p ≡ Some f → (last_filled chunks fs ≡ Some f → P f) → P f
    at us (Some k) e j rest = rest (e ∙ j)
    at [] None e j rest = absurd (none-some f j)
    at (u ∷ us) None e j rest = subst P (same_Some g f j) h.0

-- ---- the law from the locals' world

-- partials that are the same where states behind a chunk are
abbrev Alike : List Variable → State → State → (Effect → Variable → Option ℕ) → (Effect → Variable → Option ℕ) → Type 0
Alike vars start start' partial partial' =
    (f : Effect) (x : Variable) → Moved vars (overwritten start f.writes) (overwritten start' f.writes) → partial' f x ≡ partial f x

module _ (ps ls : List Variable) (rs : List (Variable × ReduceOp)) (s : Stmt) (loops : List Loop) (body : Stmt) (chunks : List (List Vector)) (outer o : State) (e : Effect) (m : Moved (role_variables (roles_with ps ls rs)) outer o)
    (ran : run s outer ≡ Some e) (start start' : State) (partial partial' : Effect → Variable → Option ℕ) (begun : Moved (role_variables (roles_with ps ls rs)) start start')
    (alike : Alike (role_variables (roles_with ps ls rs)) start start' partial partial') (inner : SharesFrom start' partial' (roles_with ps ls rs) s loops body chunks o e) where
  abbrev vars : List Variable
  vars = role_variables (roles_with ps ls rs)

  left : Moved vars (overwritten outer e.writes) (overwritten o e.writes)
  left = (moved_stmt vars s outer o m).left e ran

  abbrev Same : Effect → Type 0
  Same f = Moved vars (overwritten start f.writes) (overwritten start' f.writes)

  record Walks (cs : List (List Vector)) (fs : List Effect) : Type 0 where
    each : map (λ us. walk loops body us start) cs ≡ map Some fs
    same : Each Same fs

  walks_of : (cs : List (List Vector)) (fs : List Effect) → map (λ us. walk loops body us start') cs ≡ map Some fs → Walks cs fs
  walks_of [] [] k = record { each = refl; same = tt }
  walks_of [] (f ∷ fs) k = absurd cc
  walks_of (us ∷ cs) [] k = absurd cc
  walks_of (us ∷ cs) (f ∷ fs) k =
      let both : Both (Moved vars) start start' (walk loops body us start) (walk loops body us start') = moved_walk vars loops body us start start' begun in
      let is : walk loops body us start ≡ Some f = both.same ∙ first_there (λ (vs : List Vector). walk loops body vs start') us cs f fs k in
      let rest = walks_of cs fs (others_there (λ (vs : List Vector). walk loops body vs start') us cs f fs k) in
      record { each = λ i. is i ∷ rest.each i; same = (both.left f is, rest.same) }

  all : Walks chunks inner.effects
  all = walks_of chunks inner.effects inner.each

  of_slice : (k : ℕ) (f : Effect) → slice_get inner.effects k ≡ Some f → Same f
  of_slice k f is = each_slice Same inner.effects all.same k f is

  same_partials : (x : Variable) (fs : List Effect) → Each Same fs → map (λ f. partial' f x) fs ≡ map (λ f. partial f x) fs
  same_partials x [] h = refl
  same_partials x (f ∷ fs) h = λ i. alike f x h.0 i ∷ same_partials x fs h.1 i

  merges_on : (after : Cells) (x : Variable) (is : List ℕ) → is_among vars x ≡ false → MergesAt start inner.effects after x is → MergesAt start' inner.effects after x is
  merges_on after x is h (inl none) = inl (
    λ k f j. sym ((of_slice k f j).cells x is h) ∙ none.0 k f j ∙ begun.cells x is h,
    none.1 ∙ begun.cells x is h,
  )
  merges_on after x is h (inr c) =
      let same = (of_slice c.number c.effect c.among).cells x is h in
      inr (record { number = c.number; effect = c.effect; among = c.among; changes = λ k. c.changes (same ∙ k ∙ sym (begun.cells x is h)); leaves = c.leaves ∙ same })

  seen_left : (x : Variable) → look (overwritten outer e.writes) x [] ≡ look (overwritten o e.writes) x []
  seen_left x = moved_look vars (overwritten outer e.writes) (overwritten o e.writes) left x []

  moved_shares : SharesFrom start partial (roles_with ps ls rs) s loops body chunks outer e
  moved_shares = record {
    effects = inner.effects;
    each = all.each;
    merge = λ after merges x is h. inner.merge after (λ y js k. merges_on after y js k (merges y js k)) x is h ∙ sym (left.cells x is h);
    reductions = λ x op v order is holds once.
        seen_left x ∙ inner.reductions x op v order is (sym (moved_look vars outer o m x []) ∙ holds) once
        ∙ ap (λ (qs : List (Option ℕ)). Some (combined_all op v (picked qs order))) (same_partials x inner.effects all.same);
    lasts = λ x f h filled.
        seen_left x ∙ inner.lasts x f h filled
        ∙ sym (moved_look vars (overwritten start f.writes) (overwritten start' f.writes) (each_filled Same chunks inner.effects all.same f filled) x []);
    filled = inner.filled;
    no_last = λ x h none. seen_left x ∙ inner.no_last x h none ∙ sym (moved_look vars outer o m x []);
    locals = λ x seen other. left.locals x other ∙ inner.locals x seen other ∙ sym (m.locals x other);
    text = inner.text;
  }

-- ---- the two laws

abbrev SharedWith : List Variable → List Variable → List (Variable × ReduceOp) → ℕ → Stmt → List Loop → Stmt → State → List (List Vector) → Effect → Type 0
SharedWith ps ls rs = IsShared (roles_with ps ls rs)

module _ (ps ls : List Variable) (rs : List (Variable × ReduceOp)) (n : ℕ) (s : Stmt) (loops : List Loop) (body : Stmt) (outer : State) (chunks : List (List Vector)) (e : Effect) (is : SharedWith ps ls rs n s loops body outer chunks e) where
  abbrev role_vars : List Variable
  role_vars = role_variables (roles_with ps ls rs)

  abbrev inside : State
  inside = localized role_vars outer

  moved_in : Moved role_vars outer inside
  moved_in = localized_moved role_vars outer is.keeps.scalars

  ground : Ground ps ls rs n s loops body outer inside is.vectors chunks e
  ground = record {
    nest = is.nest;
    keeps = is.keeps;
    stands = localized_inside role_vars outer;
    gone = λ x js h. ap (λ b. cond b None (outer.cells x js)) h;
    numbers = λ x op k. let v = is.keeps.numbers x op k in (v.0, sym (moved_look role_vars outer inside moved_in x []) ∙ v.1, v.2);
    locals_alone = λ x h. alone x (is_among role_vars x) (is.declares x h);
    are = sym (moved_iterations role_vars loops outer inside moved_in) ∙ is.are;
    different = is.different;
    turning = λ u h access there. subst (λ q. IsSome q) (moved_iterations role_vars access.inner (at_vector loops u outer) (at_vector loops u inside) (moved_at role_vars loops u outer inside moved_in)) (is.turning u h access there);
    independent = λ u v h k c. is.independent u v h k (moved_conflict role_vars loops body outer inside moved_in u v c);
    whole = is.whole;
    ran = sym (moved_stmt role_vars s outer inside moved_in).same ∙ is.ran;
    taken = taken (moved_stmt role_vars (operands rs s) outer inside moved_in).same is.keeps.taken;
  }
    where
      taken : run (operands rs s) outer ≡ run (operands rs s) inside → TakesOperands rs s outer → TakesOperands rs s inside
      taken same (inl h) = inl h
      taken same (inr h) = inr (subst (λ q. IsSome q) same h)

      alone : (x : Variable) (b : Bool) → outer.cells x [] ≡ None → cond b None (outer.cells x []) ≡ None
      alone x true h = refl
      alone x false h = h

  -- from copies
  by_copies : SharesOut (roles_with ps ls rs) s loops body chunks outer e
  by_copies =
      let start = chunk_start (roles_with ps ls rs) outer in
      let start' = chunk_start (roles_with ps ls rs) inside in
      moved_shares ps ls rs s loops body chunks outer inside e moved_in is.ran start start' (updated_from start) (updated_from start') (start_moved role_vars ps ls rs outer inside moved_in)
      (λ f x m. ap (λ o. cond (hit x f.writes) o None) (sym (moved_look role_vars (overwritten start f.writes) (overwritten start' f.writes) m x [])))
      (shares ps ls rs n s loops body outer inside is.vectors chunks e ground start' (start_in ps ls rs inside is.keeps.different) (updated_from start')
      (λ x op v fits f shadow k holds at. counts_of rs op v fits x start' start' (overwritten start' f.writes) (overwritten start' shadow.writes) f.writes shadow.writes at k (identity_seen ps ls rs inside is.keeps.different x op k)))

  -- in place
  module _ (start : State) (may : MayStart (roles_with ps ls rs) outer start) where
    abbrev start_inside : State
    start_inside = localized role_vars start

    moved_start : Moved role_vars start start_inside
    moved_start = localized_moved role_vars start may.scalars

    begins : (x : Variable) (op : ReduceOp) (v : ℕ) → operator_of rs x ≡ Some op → look inside x [] ≡ Some v → look start_inside x [] ≡ Some (begins_with op v)
    begins x op v k holds = sym (moved_look role_vars start start_inside moved_start x []) ∙ may.begins x op v k (moved_look role_vars outer inside moved_in x [] ∙ holds)

    in_start : StartsIn ps ls rs inside start_inside
    in_start = record {
      cells = λ x js. cells_same x js (is_among role_vars x) refl;
      other = λ x h. ap (λ b. cond b (held_slot (start.locals x) (start.cells x [])) (start.locals x)) h ∙ may.locals x h ∙ sym (ap (λ b. cond b (held_slot (outer.locals x) (outer.cells x [])) (outer.locals x)) h);
      inside = localized_inside role_vars start;
      held = λ x op k. let v = ground.numbers x op k in subst (λ q. IsSome q) (sym (begins x op v.0 k v.1)) refl;
    }
      where
        cells_same : (x : Variable) (js : List ℕ) (b : Bool) → is_among role_vars x ≡ b → cond b None (start.cells x js) ≡ cond b None (outer.cells x js)
        cells_same x js true h = refl
        cells_same x js false h = may.cells x js h

    counts : CountsAs rs inside start_inside (changed_from start_inside)
    counts x op v fits f shadow k holds at =
        let b = begins_with op v in
        let began = begins x op v k holds in
        let p = partial_of op x None shadow.writes in
        let now : look (overwritten start_inside f.writes) x [] ≡ Some (combined op b p) = at.values x op b k began ∙ ap Some (folded_partial op x shadow.writes b) in
        subst (λ q. Counts op v fits q p) (λ i. unless_same (sym began i) (sym now i)) (in_place_counts op v fits p)

    by_place : SharesFrom start (changed_from start) (roles_with ps ls rs) s loops body chunks outer e
    by_place =
        moved_shares ps ls rs s loops body chunks outer inside e moved_in is.ran start start_inside (changed_from start) (changed_from start_inside) moved_start
        (λ f x m. λ i. unless_same (sym (moved_look role_vars start start_inside moved_start x []) i) (sym (moved_look role_vars (overwritten start f.writes) (overwritten start_inside f.writes) m x []) i))
        (shares ps ls rs n s loops body outer inside is.vectors chunks e ground start_inside in_start (changed_from start_inside) counts)

-- no variable of these roles is firstprivate or conditional
same_roles : (roles : Roles) → roles.firsts ≡ [] → roles.conditionals ≡ [] → roles_with roles.privates roles.lasts roles.reductions ≡ roles
same_roles roles firsts conditionals =
    λ i. record { privates = roles.privates; firsts = sym firsts i; lasts = roles.lasts; conditionals = sym conditionals i; reductions = roles.reductions }

pub join : RoleChunksJoin
join roles n s loops body outer chunks e is =
    subst (λ r. IsShared r n s loops body outer chunks e → SharesOut r s loops body chunks outer e) (same_roles roles is.keeps.no_firsts is.keeps.no_conditionals)
    (by_copies roles.privates roles.lasts roles.reductions n s loops body outer chunks e) is

pub join_in_place : RoleChunksJoinInPlace
join_in_place roles n s loops body outer start chunks e is =
    subst (λ r. IsShared r n s loops body outer chunks e → MayStart r outer start → SharesFrom start (changed_from start) r s loops body chunks outer e) (same_roles roles is.keeps.no_firsts is.keeps.no_conditionals)
    (λ shared may. by_place roles.privates roles.lasts roles.reductions n s loops body outer chunks e shared start may) is
