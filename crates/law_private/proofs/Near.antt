-- Runs side by side that leave the same but for what some locals hold.
use Rattle.std.specs.Prelude.{ℕ, zero, suc, Bool, true, false, not, ◌≡◌, ◌==◌, List, [], ◌∷◌, ◌++◌, Option, Some, None}
use Rattle.std.proofs.Common.{refl, sym, ap, ◌∙◌, subst, cond}
use Rattle.std.proofs.lemmas.Bool.{true≢false, eqb-true, eq-eqb, or_left, or_right}
use Rattle.std.proofs.lemmas.List.{append-nil}
use Rattle.semantics.specs.Tree.{Variable, Source, Cond, Increment, Stmt, no_items, stmt}
use Rattle.semantics.specs.Meaning.State.{State, Slot, Outside, Empty, Holds, Write, Declared, Assigned, slot_of, with_local, assign_at, written, overwritten}
use Rattle.semantics.specs.Meaning.Value.{holds, by_test, map_option}
use Rattle.semantics.specs.Meaning.Runs.{Effect, nothing, one_write, joined, then_from, declared, incremented, turns, greatest_trip_count, run, run_items}
use Rattle.semantics.specs.Meaning.Definite.{known_with, may_step, no_privates}
use Rattle.semantics.specs.Meaning.Agrees.{Agrees, also, is_among, names_source, names_cond, names_step, names_only}
use Rattle.semantics.specs.Loops.Nest.{Loop, Vector, at_vector}
use Rattle.semantics.specs.Loops.Piece.{is_outside, run_iteration, run_iterations}
use Rattle.law_commute.specs.Steady.{IsSteady}
use Rattle.law_commute.proofs.Framed.{also_itself}
use Rattle.law_commute.proofs.Matched.{overwritten-append}
use Rattle.law_nests.specs.Walks.{entered, enters, walk}
use Rattle.law_private.specs.Known.{IsWithin}
use Rattle.law_private.proofs.Alike.{Both, both_weaker, Meet, fewer, with_locals, assigned_meet, valued_both, incremented_both, holds_alike, known_alike}
use Rattle.law_private.proofs.Names.{source_more, cond_more, step_more, fixed_named, fixed_cond, fixed_stepped, named_step, names_more}
use Rattle.law_private.proofs.Own.{declaring, own_body, others, DeclaresNone, Replaced, innermost, inside, braces, none_inside, none_braced, others_also, KnownInside}

-- ---- effects that may differ

-- both have none, or both have one with the same text, and what holds of the states that they leave
abbrev pub Beside : (State → State → Type 0) → State → State → Option Effect → Option Effect → Type 0
Beside R s t None None = Unit {0}
Beside R s t None (Some f) = ⊥
Beside R s t (Some e) None = ⊥
Beside R s t (Some e) (Some f) = (e.text ≡ f.text) × R (overwritten s e.writes) (overwritten t f.writes)

-- the one beside the other
pub record Found (R : State → State → Type 0) (s t : State) (e : Effect) (p : Option Effect) : Type 0 where
  pub effect : Effect
  pub is : p ≡ Some effect
  pub text : e.text ≡ effect.text
  pub after : R (overwritten s e.writes) (overwritten t effect.writes)

module _ (R : State → State → Type 0) (s t : State) where
  pub beside_first : (o p : Option Effect) (e : Effect) → Beside R s t o p → o ≡ Some e → Found R s t e p
  beside_first o p e h is = at p (subst (λ q. Beside R s t q p) is h)
    where
      at : (q : Option Effect) → Beside R s t (Some e) q → Found R s t e q
      at None k = absurd k
      at (Some f) k = record { effect = f; is = refl; text = k.0; after = k.1 }

  pub beside_second : (o p : Option Effect) (f : Effect) → Beside R s t o p → p ≡ Some f → Found (λ u v. R v u) t s f o
  beside_second o p f h is = at o (subst (λ q. Beside R s t o q) is h)
    where
      at : (q : Option Effect) → Beside R s t q (Some f) → Found (λ u v. R v u) t s f q
      at None k = absurd k
      at (Some e) k = record { effect = e; is = refl; text = sym k.0; after = k.1 }

  beside_test : (b c : Option Bool) (o p o' p' : Option Effect) → b ≡ c → Beside R s t o o' → Beside R s t p p' → Beside R s t (by_test b o p) (by_test c o' p')
  beside_test b c o p o' p' e one two = subst (λ d. Beside R s t (by_test b o p) (by_test d o' p')) e (at b)
    where
      at : (d : Option Bool) → Beside R s t (by_test d o p) (by_test d o' p')
      at None = tt
      at (Some true) = one
      at (Some false) = two

beside_steps : (R Q : State → State → Type 0) (s t : State) (o p : Option Effect) (f g : State → Option Effect) → Beside R s t o p
    → ((u v : State) → R u v → Beside Q u v (f u) (g v)) → Beside Q s t (then_from s o f) (then_from t p g)
beside_steps R Q s t None None f g one two = tt
beside_steps R Q s t None (Some d) f g one two = absurd one
beside_steps R Q s t (Some e) None f g one two = absurd one
beside_steps R Q s t (Some e) (Some d) f g one two = at (f (overwritten s e.writes)) (g (overwritten t d.writes)) (two (overwritten s e.writes) (overwritten t d.writes) one.1)
  where
    at : (o p : Option Effect) → Beside Q (overwritten s e.writes) (overwritten t d.writes) o p → Beside Q s t (map_option (joined e) o) (map_option (joined d) p)
    at None None h = tt
    at None (Some b) h = absurd h
    at (Some a) None h = absurd h
    at (Some a) (Some b) h = (
      λ i. one.0 i ++ h.0 i,
      subst (λ u. Q u (overwritten t (d.writes ++ b.writes))) (sym (overwritten-append s e.writes a.writes))
          (subst (λ u. Q (overwritten (overwritten s e.writes) a.writes) u) (sym (overwritten-append t d.writes b.writes)) h.1),
    )

-- ---- a local stays a local

slot_inside : (v : Option ℕ) → is_outside (slot_of v) ≡ false
slot_inside None = refl
slot_inside (Some n) = refl

set_inside : (s : State) (x y : Variable) (k : Slot) → is_outside k ≡ false → is_outside (s.locals x) ≡ false → is_outside ((with_local s y k).locals x) ≡ false
set_inside s x y k up h = at (x == y)
  where
    at : (b : Bool) → is_outside (cond b k (s.locals x)) ≡ false
    at true = up
    at false = h

written_inside : (w : Write) (s : State) (x : Variable) → is_outside (s.locals x) ≡ false → is_outside ((written s w).locals x) ≡ false
written_inside (Declared y v) s x h = set_inside s x y (slot_of v) (slot_inside v) h
written_inside (Assigned y is v) s x h = at (s.locals y)
  where
    at : (k : Slot) → is_outside ((assign_at k s y is v).locals x) ≡ false
    at Outside = h
    at Empty = set_inside s x y (Holds v) refl h
    at (Holds n) = set_inside s x y (Holds v) refl h

pub all_inside : (ws : List Write) (s : State) (x : Variable) → is_outside (s.locals x) ≡ false → is_outside ((overwritten s ws).locals x) ≡ false
all_inside [] s x h = h
all_inside (w ∷ ws) s x h = all_inside ws (written s w) x (written_inside w s x h)

-- ---- states that agree but for these

module _ (xs : List Variable) where
  abbrev all : Variable → Bool
  all x = true

  abbrev Others : Variable → Type 0
  Others x = others xs x ≡ true

  pub record Near (s t : State) : Type 0 where
    pub agrees : Agrees (λ x. true) (others xs) s t
    pub inside : (x : Variable) → is_among xs x ≡ true → is_outside (s.locals x) ≡ false

  abbrev Meets : (Variable → Bool) → State → State → Type 0
  Meets k = Meet all k Others

  meet_of : (s t : State) → Near s t → Meets (others xs) s t
  meet_of s t n = record { agrees = n.agrees; kept = n.agrees.values }

  near_of : (k : Variable → Bool) (s t : State) → Meets k s t → ((x : Variable) → is_among xs x ≡ true → is_outside (s.locals x) ≡ false) → Near s t
  near_of k s t m up = record { agrees = record { cells = m.agrees.cells; kinds = m.agrees.kinds; values = m.kept }; inside = up }

  near_both : (k : Variable → Bool) (s t : State) (o p : Option Effect) → Near s t → Both (Meets k) s t o p → Beside Near s t o p
  near_both k s t o p n b = subst (λ q. Beside Near s t o q) b.same (at o b.left)
    where
      at : (q : Option Effect) → ((e : Effect) → q ≡ Some e → Meets k (overwritten s e.writes) (overwritten t e.writes)) → Beside Near s t q q
      at None left = tt
      at (Some e) left = (refl, near_of k (overwritten s e.writes) (overwritten t e.writes) (left e refl) (λ x h. all_inside e.writes s x (n.inside x h)))

  near_written : (w : Write) (s t : State) → Near s t → Near (written s w) (written t w)
  near_written (Declared x v) s t n =
      let k = known_with (others xs) x true in
      near_of k (with_local s x (slot_of v)) (with_local t x (slot_of v))
      (fewer all (others xs) Others s t (meet_of s t n) x k (with_local s x (slot_of v)) (with_local t x (slot_of v)) (with_locals all (others xs) Others s t (meet_of s t n) x true (slot_of v)))
      (λ y h. written_inside (Declared x v) s y (n.inside y h))
  near_written (Assigned x is v) s t n =
      near_of (known_with (others xs) x true) (written s (Assigned x is v)) (written t (Assigned x is v)) (assigned_meet all (others xs) Others s t (meet_of s t n) x is v refl)
      (λ y h. written_inside (Assigned x is v) s y (n.inside y h))

  pub near_all : (ws : List Write) (s t : State) → Near s t → Near (overwritten s ws) (overwritten t ws)
  near_all [] s t n = n
  near_all (w ∷ ws) s t n = near_all ws (written s w) (written t w) (near_written w s t n)

  -- one of these is declared in the second
  pub near_empty : (x : Variable) (s t : State) → is_among xs x ≡ true → Near s t → Near s (with_local t x Empty)
  near_empty x s t among n = record {
    agrees = record {
      cells = n.agrees.cells;
      kinds = λ y h. kind y (y == x) refl;
      values = λ y h. value y (y == x) refl h;
    };
    inside = n.inside;
  }
    where
      kind : (y : Variable) (b : Bool) → (y == x) ≡ b → is_outside (s.locals y) ≡ is_outside (cond (y == x) Empty (t.locals y))
      kind y true e = n.inside y (ap (is_among xs) (eqb-true y x e) ∙ among) ∙ sym (ap (λ b. is_outside (cond b Empty (t.locals y))) e)
      kind y false e = n.agrees.kinds y refl ∙ sym (ap (λ b. is_outside (cond b Empty (t.locals y))) e)

      value : (y : Variable) (b : Bool) → (y == x) ≡ b → not (is_among xs y) ≡ true → s.locals y ≡ cond (y == x) Empty (t.locals y)
      value y true e h = absurd (true≢false (sym h ∙ ap (λ z. not (is_among xs z)) (eqb-true y x e) ∙ ap not among))
      value y false e h = n.agrees.values y h ∙ sym (ap (λ b. cond b Empty (t.locals y)) e)

  near_vector : (loops : List Loop) (u : Vector) (s t : State) → Near s t → Near (at_vector loops u s) (at_vector loops u t)
  near_vector [] u s t n = n
  near_vector (l ∷ ls) [] s t n = n
  near_vector (l ∷ ls) (v ∷ vs) s t n = near_vector ls vs (with_local s l.variable (Holds v)) (with_local t l.variable (Holds v)) (near_written (Declared l.variable (Some v)) s t n)

  -- ---- effects that leave such states behind any such states

  -- both have none, or both have one with the same text
  abbrev pub Twin : Option Effect → Option Effect → Type 0
  Twin None None = Unit {0}
  Twin None (Some f) = ⊥
  Twin (Some e) None = ⊥
  Twin (Some e) (Some f) = (e.text ≡ f.text) × ((s t : State) → Near s t → Near (overwritten s e.writes) (overwritten t f.writes))

  twin_beside : (o p : Option Effect) (s t : State) → Near s t → Twin o p → Beside Near s t o p
  twin_beside None None s t n h = tt
  twin_beside None (Some f) s t n h = absurd h
  twin_beside (Some e) None s t n h = absurd h
  twin_beside (Some e) (Some f) s t n h = (h.0, h.1 s t n)

  -- nothing more in the second
  twin_last : (r : State) (o : Option Effect) → Twin o (then_from r o (run_items no_items))
  twin_last r None = tt
  twin_last r (Some e) = (
    sym (append-nil e.text),
    λ s t n. subst (λ ws. Near (overwritten s e.writes) (overwritten t ws)) (sym (append-nil e.writes)) (near_all e.writes s t n),
  )

  -- one of these is declared in the second
  twin_declared : (x : Variable) → is_among xs x ≡ true → (o p : Option Effect) → Twin o p → Twin o (map_option (joined (one_write (Declared x None))) p)
  twin_declared x among None None h = tt
  twin_declared x among None (Some f) h = absurd h
  twin_declared x among (Some e) None h = absurd h
  twin_declared x among (Some e) (Some f) h = (h.0, λ s t n. h.1 s (with_local t x Empty) (near_empty x s t among n))

  -- ---- the body, and one with them as its own locals
  module _ (body : Stmt) (V : Variable → Bool) (named : names_only V body ≡ true) (known : KnownInside xs body) where
    pub same_body : (s t : State) → Near s t → run body s ≡ run body t
    same_body s t n =
        let agrees : Agrees all known.known s t = record { cells = n.agrees.cells; kinds = n.agrees.kinds; values = λ x h. n.agrees.values x (known.less x h) } in
        (known_alike no_privates body all known.known known.behind s t known.is (names_more body V all (λ y h. refl) named) agrees).same

    declared_body : (zs : List Variable) (s t : State) → ((y : Variable) → is_among zs y ≡ true → is_among xs y ≡ true) → Near s t
        → Twin (run body s) (run_items (declaring zs (stmt body no_items)) t)
    declared_body [] s t own n = subst (λ o. Twin (run body s) (then_from t o (run_items no_items))) (same_body s t n) (twin_last t (run body s))
    declared_body (z ∷ zs) s t own n =
        let there = own z (or_left (z == z) (is_among zs z) (eq-eqb z z refl)) in
        twin_declared z there (run body s) (run_items (declaring zs (stmt body no_items)) (with_local t z Empty))
        (declared_body zs s (with_local t z Empty) (λ y h. own y (or_right (z == y) (is_among zs y) h)) (near_empty z s t there n))

    pub twin_body : (s t : State) → Near s t → Twin (run body s) (run (own_body xs body) t)
    twin_body s t n = declared_body xs s t (λ y h. h) n

    near_body : (s t : State) → Near s t → Beside Near s t (run body s) (run (own_body xs body) t)
    near_body s t n = twin_beside (run body s) (run (own_body xs body) t) s t n (twin_body s t n)

    -- iterations one after another, each begun with its loops' variables alone
    pub near_iterations : (loops : List Loop) (us : List Vector) (s t : State) → Near s t → Beside Near s t (run_iterations loops body us s) (run_iterations loops (own_body xs body) us t)
    near_iterations loops [] s t n = (refl, n)
    near_iterations loops (u ∷ us) s t n =
        beside_steps Near Near s t (run_iteration loops body u s) (run_iteration loops (own_body xs body) u t) (run_iterations loops body us) (run_iterations loops (own_body xs body) us)
        (twin_beside (run_iteration loops body u s) (run_iteration loops (own_body xs body) u t) s t n (twin_body (at_vector loops u s) (at_vector loops u t) (near_vector loops u s t n)))
        (λ a b g. near_iterations loops us a b g)

    -- and in one memory
    pub near_walk : (loops : List Loop) (us : List Vector) (s t : State) → Near s t → Beside Near s t (walk loops body us s) (walk loops (own_body xs body) us t)
    near_walk loops [] s t n = (refl, n)
    near_walk loops (u ∷ us) s t n =
        beside_steps Near Near s t (Some (enters loops u)) (Some (enters loops u))
        (λ v. then_from v (run body v) (walk loops body us)) (λ v. then_from v (run (own_body xs body) v) (walk loops (own_body xs body) us))
        (refl, near_all (entered loops u) s t n)
        (λ a b g. beside_steps Near Near a b (run body a) (run (own_body xs body) b) (walk loops body us) (walk loops (own_body xs body) us) (near_body a b g)
        (λ c d h. near_walk loops us c d h))

    -- ---- the nest

    near_turns : (test : Cond) (step : Increment) (b b' : Stmt) → names_cond (others xs) test ≡ true → names_step all step ≡ true → may_step (others xs) step ≡ true
        → ((s t : State) → Near s t → Beside Near s t (run b s) (run b' t)) → (n : ℕ) (s t : State) → Near s t
        → Beside Near s t (turns n (λ u. holds u test) (run b) (λ u. incremented u step) s) (turns n (λ u. holds u test) (run b') (λ u. incremented u step) t)
    near_turns test step b b' tested stepped may goes zero s t n =
        beside_test Near s t (holds s test) (holds t test) None (Some nothing) None (Some nothing) (holds_alike all (others xs) Others s t (meet_of s t n) test tested) tt (refl, n)
    near_turns test step b b' tested stepped may goes (suc k) s t n =
        let first = turns k (λ u. holds u test) (run b) (λ u. incremented u step) in
        let second = turns k (λ u. holds u test) (run b') (λ u. incremented u step) in
        beside_test Near s t (holds s test) (holds t test)
        (then_from s (run b s) (λ u. then_from u (incremented u step) first)) (Some nothing)
        (then_from t (run b' t) (λ u. then_from u (incremented u step) second)) (Some nothing)
        (holds_alike all (others xs) Others s t (meet_of s t n) test tested)
        (beside_steps Near Near s t (run b s) (run b' t) (λ u. then_from u (incremented u step) first) (λ u. then_from u (incremented u step) second) (goes s t n)
        (λ u v g. beside_steps Near Near u v (incremented u step) (incremented v step) first second
        (near_both (others xs) u v (incremented u step) (incremented v step) g (incremented_both all (others xs) Others u v (meet_of u v g) step stepped may))
        (λ u' v' g'. near_turns test step b b' tested stepped may goes k u' v' g')))
        (refl, n)

    near_start : (x : Variable) (start : Source) → names_source (others xs) start ≡ true → (s t : State) → Near s t → Beside Near s t (declared s x (Some start)) (declared t x (Some start))
    near_start x start named s t n =
        let k = known_with (others xs) x true in
        near_both k s t (declared s x (Some start)) (declared t x (Some start)) n
        (both_weaker (Meet (also all x) k Others) (Meets k) s t (declared s x (Some start)) (declared t x (Some start))
        (λ u v. fewer all (others xs) Others s t (meet_of s t n) x k u v) (valued_both all (others xs) Others s t (meet_of s t n) x start named))

    pub near_nest : (n : ℕ) (s s' : Stmt) (ls : List Loop) → Replaced body (own_body xs body) n s s' ls → (F : Variable → Bool) → IsSteady F s → IsWithin F (others xs) → DeclaresNone xs s
        → (u v : State) → Near u v → Beside Near u v (run s u) (run s' v)
    near_nest zero s s' ls innermost F steady less none u v n = near_body u v n
    near_nest (suc k) s s' ls (inside {x = x} {name = name} {start = start} {test = test} {step = step} {b = b} {b' = b'} {ls = rest} r) F steady less none u v n =
        let away = none_inside xs body x name start test step b none in
        let wide = others_also xs body F x away.variable less in
        let step_named = fixed_stepped (also F x) x step (also_itself F x) steady.3 in
        beside_steps Near Near u v (declared u x (Some start)) (declared v x (Some start))
        (turns greatest_trip_count (λ q. holds q test) (run b) (λ q. incremented q step)) (turns greatest_trip_count (λ q. holds q test) (run b') (λ q. incremented q step))
        (near_start x start (source_more F (others xs) less start (fixed_named F start steady.1)) u v n)
        (λ a c g.
        near_turns test step b b' (cond_more (also F x) (others xs) wide test (fixed_cond (also F x) test steady.2))
        (step_more (also F x) all (λ y h. refl) step step_named) (named_step (others xs) step (step_more (also F x) (others xs) wide step step_named))
        (λ a' c' g'. near_nest k b b' rest r (also F x) steady.4 wide away.rest a' c' g') greatest_trip_count a c g)
    near_nest (suc k) s s' ls (braces {a = a} {a' = a'} r) F steady less none u v n =
        beside_steps Near Near u v (run a u) (run a' v) (run_items no_items) (run_items no_items) (near_nest (suc k) a a' ls r F steady.0 less (none_braced xs body a none) u v n)
        (λ p q g. (refl, g))
