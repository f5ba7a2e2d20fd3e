-- Chunks of iterations with private scalars, by those of a nest whose body declares these itself.
use Rattle.std.specs.Prelude.{ℕ, zero, suc, Bool, true, false, not, ◌≡◌, ◌==◌, ◌⊎◌, List, [], ◌∷◌, ◌++◌, map, flat_map, Option, Some, None, is_none, slice_get, Contains}
use Rattle.std.specs.List.{list_all}
use Rattle.std.proofs.Common.{refl, sym, ap, ◌∙◌, subst, inl, inr}
use Rattle.std.proofs.lemmas.Bool.{true≢false, eqb-true, and_cases, and_from, or_cases}
use Rattle.std.proofs.lemmas.Option.{same_Some, none-some}
use Rattle.semantics.specs.Tree.{Variable, Stmt}
use Rattle.semantics.specs.Meaning.State.{State}
use Rattle.semantics.specs.Meaning.Runs.{Effect, run}
use Rattle.semantics.specs.Meaning.Agrees.{is_among, visible_behind}
use Rattle.semantics.specs.Loops.Nest.{Loop, Vector}
use Rattle.semantics.specs.Loops.Access.{Access, Element, Mode, Touches, Conflict, accesses}
use Rattle.semantics.specs.Loops.Piece.{is_outside}
use Rattle.law_commute.specs.Targets.{targets, targets_outside, is_local}
use Rattle.law_commute.specs.Commuting.{KeepsToItself, InnerLoopsTurn}
use Rattle.law_commute.proofs.Values.{first_of, second_of}
use Rattle.law_commute.proofs.Lists.{first_there, others_there}
use Rattle.law_nests.specs.Walks.{walk}
use Rattle.law_nests.specs.Merging.{Cells, left_by, NoneChanges, OneChanges, Merges, WalkApart}
use Rattle.law_nests.proofs.Joined.{nest_declares, visible_more}
use Rattle.law_nests.proofs.Merged.{chunks_merge}
use Rattle.law_nests.proofs.Steadied.{among_filter, no_targets}
use Rattle.law_private.specs.Private.{PrivateChunksMerge}
use Rattle.law_private.proofs.Own.{own_body, fixed_but, others, DeclaresNone, innermost, HasReplaced, replaced, replaced_nest, fixed_is, own_accesses, replaced_keeps, KnownInside, known_inside}
use Rattle.law_private.proofs.Near.{Beside, beside_first, beside_second, Found, Near, near_walk, near_nest}

pub locals_all : (s : State) (xs : List Variable) (x : Variable) → list_all (is_local s) xs ≡ true → is_among xs x ≡ true → is_local s x ≡ true
locals_all s [] x h k = absurd (true≢false (sym k))
locals_all s (y ∷ xs) x h k = at (or_cases (y == x) (is_among xs x) k) (λ j. locals_all s xs x (second_of (is_local s y) (list_all (is_local s) xs) h) j)
  where
    at : ((y == x) ≡ true) ⊎ (is_among xs x ≡ true) → (is_among xs x ≡ true → is_local s x ≡ true) → is_local s x ≡ true
    at (inl e) rest = ap (is_local s) (sym (eqb-true y x e)) ∙ first_of (is_local s y) (list_all (is_local s) xs) h
    at (inr j) rest = rest j

pub not_true : (b : Bool) → not b ≡ true → b ≡ false
not_true true h = absurd (true≢false (sym h))
not_true false h = refl

pub near_itself : (xs : List Variable) (s : State) → list_all (is_local s) xs ≡ true → Near xs s s
near_itself xs s h = record {
  agrees = record { cells = λ x is. refl; kinds = λ x k. refl; values = λ x k. refl };
  inside = λ x k. not_true (is_outside (s.locals x)) (first_of (not (is_outside (s.locals x))) (is_none (s.cells x [])) (locals_all s xs x h k));
}

-- the targets from outside are not declared
pub targets_none : (s : Stmt) → DeclaresNone (targets_outside s) s
targets_none s x h = (among_filter (visible_behind s) (targets s) x h).0

-- ---- conflicts

-- those of a body whose iterations touch no more than another's
pub conflict_by : (loops : List Loop) (less more : Stmt) (s t : State) → ((u : Vector) (element : Element) (mode : Mode) → Touches loops less s u element mode → Touches loops more t u element mode)
    → (u v : Vector) → Conflict loops less s u v → Conflict loops more t u v
conflict_by loops less more s t touches u v c = record {
  differ = c.differ;
  element = c.element;
  first = c.first;
  second = c.second;
  one_writes = c.one_writes;
  by_first = touches u c.element c.first c.by_first;
  by_second = touches v c.element c.second c.by_second;
}

-- of a body whose accesses are among those of another

module _ (loops : List Loop) (less more : Stmt) (outer : State) (among : (access : Access) → Contains (accesses [] less) access → Contains (accesses [] more) access) where
  pub less_turning : (u : Vector) → InnerLoopsTurn loops more outer u → InnerLoopsTurn loops less outer u
  less_turning u turn access there = turn access (among access there)

  more_touches : (u : Vector) (element : Element) (mode : Mode) → Touches loops less outer u element mode → Touches loops more outer u element mode
  more_touches u element mode t = record { access = t.access; there = among t.access t.there; reaches = t.reaches; mode_is = t.mode_is }

  pub more_conflict : (u v : Vector) → Conflict loops less outer u v → Conflict loops more outer u v
  more_conflict = conflict_by loops less more outer outer more_touches

-- of one that declares its own
module _ (xs : List Variable) (loops : List Loop) (body : Stmt) (outer : State) where
  own_among : (access : Access) → Contains (accesses [] (own_body xs body)) access → Contains (accesses [] body) access
  own_among access there = subst (λ (found : List Access). Contains found access) (own_accesses xs body) there

  pub own_turning : (u : Vector) → InnerLoopsTurn loops body outer u → InnerLoopsTurn loops (own_body xs body) outer u
  own_turning = less_turning loops (own_body xs body) body outer own_among

  pub own_conflict : (u v : Vector) → Conflict loops (own_body xs body) outer u v → Conflict loops body outer u v
  own_conflict = more_conflict loops (own_body xs body) body outer own_among

-- ---- effects that leave the same objects

module _ (outer : State) where
  abbrev AllSame : List Effect → List Effect → Type 0
  AllSame [] [] = Unit {0}
  AllSame [] (f ∷ fs) = ⊥
  AllSame (e ∷ es) [] = ⊥
  AllSame (e ∷ es) (f ∷ fs) = ((x : Variable) (is : List ℕ) → left_by outer e x is ≡ left_by outer f x is) × AllSame es fs

  same_back : (es fs : List Effect) → AllSame es fs → AllSame fs es
  same_back [] [] h = tt
  same_back [] (f ∷ fs) h = absurd h
  same_back (e ∷ es) [] h = absurd h
  same_back (e ∷ es) (f ∷ fs) h = (λ x is. sym (h.0 x is), same_back es fs h.1)

  -- what stands there in the other list
  record Partner (fs : List Effect) (k : ℕ) (e : Effect) : Type 0 where
    effect : Effect
    is : slice_get fs k ≡ Some effect
    leaves : (x : Variable) (js : List ℕ) → left_by outer e x js ≡ left_by outer effect x js

  partner : (es fs : List Effect) → AllSame es fs → (k : ℕ) (e : Effect) → slice_get es k ≡ Some e → Partner fs k e
  partner [] [] h k e is = absurd (none-some e is)
  partner [] (f ∷ fs) h k e is = absurd h
  partner (d ∷ es) [] h k e is = absurd h
  partner (d ∷ es) (f ∷ fs) h zero e is = record { effect = f; is = refl; leaves = subst (λ (c : Effect). (x : Variable) (js : List ℕ) → left_by outer c x js ≡ left_by outer f x js) (same_Some d e is) h.0 }
  partner (d ∷ es) (f ∷ fs) h (suc k) e is = let r = partner es fs h.1 k e is in record { effect = r.effect; is = r.is; leaves = r.leaves }

  merges_same : (es fs : List Effect) (after : Cells) → AllSame es fs → Merges outer es after → Merges outer fs after
  merges_same es fs after same merges x js = at (merges x js)
    where
      at : ((NoneChanges outer es x js) × (after x js ≡ outer.cells x js)) ⊎ OneChanges outer es after x js → ((NoneChanges outer fs x js) × (after x js ≡ outer.cells x js)) ⊎ OneChanges outer fs after x js
      at (inl none) = inl (λ k f is. let p = partner fs es (same_back es fs same) k f is in p.leaves x js ∙ none.0 k p.effect p.is, none.1)
      at (inr c) =
          let p = partner es fs same c.number c.effect c.among in
          inr (record { number = c.number; effect = p.effect; among = p.is; changes = λ k. c.changes (p.leaves x js ∙ k); leaves = c.leaves ∙ p.leaves x js })

-- ---- chunks

module _ (xs : List Variable) (loops : List Loop) (body own : Stmt) (outer : State) (walks : (us : List Vector) → Beside (Near xs) outer outer (walk loops body us outer) (walk loops own us outer)) where
  record Walks (chunks : List (List Vector)) (fs : List Effect) : Type 0 where
    effects : List Effect
    each : map (λ us. walk loops body us outer) chunks ≡ map Some effects
    same : AllSame outer effects fs
    text : flat_map (λ (f : Effect). f.text) effects ≡ flat_map (λ (f : Effect). f.text) fs

  walks_of : (chunks : List (List Vector)) (fs : List Effect) → map (λ us. walk loops own us outer) chunks ≡ map Some fs → Walks chunks fs
  walks_of [] [] e = record { effects = []; each = refl; same = tt; text = refl }
  walks_of [] (f ∷ fs) e = absurd cc
  walks_of (us ∷ chunks) [] e = absurd cc
  walks_of (us ∷ chunks) (f ∷ fs) e =
      let one = beside_second (Near xs) outer outer (walk loops body us outer) (walk loops own us outer) f (walks us) (first_there (λ (vs : List Vector). walk loops own vs outer) us chunks f fs e) in
      let rest = walks_of chunks fs (others_there (λ (vs : List Vector). walk loops own vs outer) us chunks f fs e) in
      record { effects = one.effect ∷ rest.effects; each = λ i. one.is i ∷ rest.each i; same = (λ x is. one.after.agrees.cells x is, rest.same); text = λ i. sym one.text i ++ rest.text i }

pub private_merge : PrivateChunksMerge
private_merge n s loops body outer us chunks e nest keeps own_keeps first local_all locals_alone are different turning independent whole ran =
    let xs = targets_outside s in
    let own = own_body xs body in
    let none = targets_none s in
    let has : HasReplaced body own n s loops = replaced body own n s loops nest in
    let known : KnownInside xs body = known_inside xs body n s has.nest loops has.is none (others xs) (λ x h. h) first in
    let here : Near xs outer outer = near_itself xs outer local_all in
    let one : Found (Near xs) outer outer e (run has.nest outer) =
    beside_first (Near xs) outer outer (run s outer) (run has.nest outer) e
    (near_nest xs body (visible_behind body) own_keeps.names known n s has.nest loops has.is (fixed_but xs s) keeps.steady (λ x h. second_of (visible_behind s x) (not (is_among xs x)) h) none outer outer here) ran in
    let whole_keeps : KeepsToItself has.nest = replaced_keeps xs body n s has.nest loops has.is none keeps in
    let body_none : DeclaresNone xs body = λ x h. visible_more s body (nest_declares n s loops body nest) x (none x h) in
    let merge : WalkApart has.nest loops own chunks outer one.effect =
    chunks_merge n has.nest loops own outer us chunks one.effect (replaced_nest body own n s has.nest loops has.is) whole_keeps (replaced_keeps xs body zero body own [] innermost body_none own_keeps)
    (λ x h. declared x (ap (λ (V : Variable → Bool). V x) (fixed_is xs body n s has.nest loops has.is) ∙ h)) are different
    (λ u h. own_turning xs loops body outer u (turning u h)) (λ u v h k c. independent u v h k (own_conflict xs loops body outer u v c)) whole one.is in
    let found : Walks xs loops body own outer (λ vs. near_walk xs body (visible_behind body) own_keeps.names known loops vs outer outer here) chunks merge.effects =
    walks_of xs loops body own outer (λ vs. near_walk xs body (visible_behind body) own_keeps.names known loops vs outer outer here) chunks merge.effects merge.each in
    record {
      effects = found.effects;
      each = found.each;
      merge = λ after m x is. merge.merge after (merges_same outer found.effects merge.effects after found.same m) x is ∙ sym (one.after.agrees.cells x is);
      locals = λ x seen other.
          one.after.agrees.values x (ap not other)
          ∙ merge.locals x (sym (ap (λ (V : Variable → Bool). V x) (fixed_is xs body n s has.nest loops has.is)) ∙ and_from (visible_behind s x) (not (is_among xs x)) seen (ap not other))
          (no_targets has.nest x whole_keeps);
      text = one.text ∙ merge.text ∙ sym found.text;
    }
  where
    no_cell : (o : Option ℕ) → is_none o ≡ true → o ≡ None
    no_cell None h = refl
    no_cell (Some v) h = absurd (true≢false (sym h))

    declared : (x : Variable) → fixed_but (targets_outside s) s x ≡ false → outer.cells x [] ≡ None
    declared x h = at (and_cases (visible_behind s x) (not (is_among (targets_outside s) x)) h)
      where
        private : (b : Bool) → is_among (targets_outside s) x ≡ b → not b ≡ false → outer.cells x [] ≡ None
        private true k j = no_cell (outer.cells x []) (second_of (not (is_outside (outer.locals x))) (is_none (outer.cells x [])) (locals_all outer (targets_outside s) x local_all k))
        private false k j = absurd (true≢false j)

        at : (visible_behind s x ≡ false) ⊎ (not (is_among (targets_outside s) x) ≡ false) → outer.cells x [] ≡ None
        at (inl k) = locals_alone x k
        at (inr k) = private (is_among (targets_outside s) x) refl k
