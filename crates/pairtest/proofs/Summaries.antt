-- What is kept of a sum, step by step.
use Rattle.std.proofs.Common.{◌≡◌, ℕ, zero, suc, ℤ, pos, ◌+◌, ◌^◌, ◌+ℤ◌, ◌≤ℤ◌, ◌<ℤ◌, ◌⊎◌, inl, inr, unsigned_abs, List, [], ◌∷◌, ◌++◌, length, get_or, take, drop, Result, Ok, Err, IfErr, ◌<◌, ◌-ℤ◌, ◌%◌, ◌↔◌, Bool, true, false, not, ◌||◌, ⊎_elim, Contains, Any, ◌&&◌, min, All, append_assoc, refl, sym, ap, ◌∙◌, subst, arith}
use Rattle.std.specs.Int.{◌∣◌, int_min, int_max, IsGcd, saturate_signed, w128}
use Rattle.std.proofs.lemmas.Int.{ints, clamps, by_lt_z}
use Rattle.std.proofs.lemmas.Nat.Gcd.{dvd_trans}
use Rattle.std.proofs.lemmas.List.Elements.{All-more, Contains-append_left, Contains-append_right, Contains-append_cases, All-push, All-nil, All-cons, All-head, All-tail}
use Rattle.std.proofs.lemmas.List.{take_more, get_or_append_left}
use Rattle.std.specs.List.{zip}
use Rattle.std.proofs.lemmas.Slice.Zip.{length-zip, get_or-zip}
use Rattle.std.proofs.lemmas.List.Quantifiers.{Any-push}
use Rattle.std.proofs.Common.{length-append}
use Rattle.pairtest.specs.declared.reach.Reach.{Reach}
use Rattle.pairtest.specs.Equations.{Unknown, unknown, equation, last_product, least_sum, greatest_sum, IsRefutedByGcd, IsWithin, CoefficientsWithin}
use Rattle.pairtest.specs.Reached.{Summarizes}
use Rattle.std.proofs.Math.Nat.{zero-dvd, dvd_of_mod-eq-zero, mod-eq-zero_of_dvd}
use Rattle.std.proofs.lemmas.Bool.Decides.{Decides-eqb, Decides-ltb, nat_tests}
use Rattle.std.specs.Prelude.{nat_eq, nat_lt, int_lt}
use Rattle.pairtest.specs.DirectionVectors.{coefficient, counters}
use Rattle.pairtest.proofs.CounterLists.{counters-more, counters-append}
use Rattle.pairtest.proofs.Sums.{least_sum-append, greatest_sum-append, least_sum-below, greatest_sum-above, greatest_divisor-push, saturated_low_more, saturated_high_more}

-- one more unknown
pub summarizes_push : (r : Reach) (us : List Unknown) (c : ℤ) (n d : ℕ) (far low high : ℤ) → Summarizes r us → IsWithin (2 ^ 62) c → far ≡ last_product (unknown c n)
    → IsGcd r.divisor (unsigned_abs c) d → low ≡ saturate_signed w128 (r.least +ℤ int_min far (pos 0)) → high ≡ saturate_signed w128 (r.greatest +ℤ int_max far (pos 0))
    → Summarizes (record { divisor = d; least = low; greatest = high }) (us ++ unknown c n ∷ [])
summarizes_push r us c n d far low high h within is gcd lower higher =
    let u = unknown c n in
    let p = last_product u in
    record {
      within = All-push (λ (v : Unknown). IsWithin (2 ^ 62) v.coefficient) us u h.within within;
      divisor = greatest_divisor-push us u r.divisor d h.divisor gcd;
      least =
          lower ∙ ap (λ (z : ℤ). saturate_signed w128 (r.least +ℤ int_min z (pos 0))) is
          ∙ saturated_low_more r.least (least_sum us) (int_min p (pos 0)) (least_sum-below us) (lesser p) h.least
          ∙ ap (λ (z : ℤ). saturate_signed w128 z) (plus (least_sum us) (int_min p (pos 0)) ∙ sym (least_sum-append us (u ∷ [])));
      greatest =
          higher ∙ ap (λ (z : ℤ). saturate_signed w128 (r.greatest +ℤ int_max z (pos 0))) is
          ∙ saturated_high_more r.greatest (greatest_sum us) (int_max p (pos 0)) (greatest_sum-above us) (greater p) h.greatest
          ∙ ap (λ (z : ℤ). saturate_signed w128 z) (plus (greatest_sum us) (int_max p (pos 0)) ∙ sym (greatest_sum-append us (u ∷ [])));
    }
  where
    lesser : (p : ℤ) → int_min p (pos 0) ≤ℤ pos 0
    lesser p = omega (arith, ints, clamps)

    greater : (p : ℤ) → pos 0 ≤ℤ int_max p (pos 0)
    greater p = omega (arith, ints, clamps)

    plus : (a b : ℤ) → a +ℤ b ≡ a +ℤ (b +ℤ pos 0)
    plus a b = omega (arith, ints)

-- the remainder tells whether a number is a multiple
pub is_multiple : (d k n m : ℕ) → k ≡ d → n ≡ m → (nat_eq (n % k) 0 ≡ true) ↔ (d ∣ m)
is_multiple d k n m e f = (
  λ (t : nat_eq (n % k) 0 ≡ true). subst (λ (j : ℕ). d ∣ j) f (subst (λ (j : ℕ). j ∣ n) e (dvd_of_mod-eq-zero k ((Decides-eqb (n % k) 0).0 t))),
  λ (h : d ∣ m). (Decides-eqb (n % k) 0).1 (mod-eq-zero_of_dvd k (subst (λ (j : ℕ). j ∣ n) (sym e) (subst (λ (j : ℕ). d ∣ j) (sym f) h))),
)

pub is_multiple_of_0 : (d n m : ℕ) → d ≡ 0 → n ≡ m → (nat_eq n 0 ≡ true) ↔ (d ∣ m)
is_multiple_of_0 d n m e f = (
  λ (t : nat_eq n 0 ≡ true). subst (λ (j : ℕ). j ∣ m) (sym e) (zero-dvd.1 (sym f ∙ (Decides-eqb n 0).0 t)),
  λ (h : d ∣ m). (Decides-eqb n 0).1 (f ∙ zero-dvd.0 (subst (λ (j : ℕ). j ∣ m) e h)),
)

-- an error that is told of whatever error there is
pub if_err_any : {A E : Type 0} {P : Type 0} (r : Result A E) → P → IfErr r (λ _. P)
if_err_any (Ok a) p = tt
if_err_any (Err e) p = p

-- one more counter, in a loop over them
pub counters_step : (r q : Reach) (us : List Unknown) (es ls : List ℤ) (ts : List ℕ) (i : ℕ) (c : ℤ) (n : ℕ) → i < length ts
    → c ≡ coefficient es i -ℤ coefficient ls i → n ≡ get_or ts i 0 → Summarizes r (us ++ counters es ls (take i ts))
    → ((vs : List Unknown) → Summarizes r vs → Summarizes q (vs ++ unknown c n ∷ [])) → Summarizes q (us ++ counters es ls (take (i + 1) ts))
counters_step r q us es ls ts i c n l is turns h more =
    let so_far = counters es ls (take i ts) in
    let next : (us ++ so_far) ++ unknown c n ∷ [] ≡ us ++ counters es ls (take (i + 1) ts) =
    append_assoc us so_far (unknown c n ∷ [])
    ∙ ap (λ (d : ℤ). us ++ (so_far ++ unknown d n ∷ [])) is
    ∙ ap (λ (k : ℕ). us ++ (so_far ++ unknown (coefficient es i -ℤ coefficient ls i) k ∷ [])) turns
    ∙ ap (λ (vs : List Unknown). us ++ vs) (sym (counters-more es ls ts i l)) in
    subst (λ (vs : List Unknown). Summarizes q vs) next (more (us ++ so_far) h)

-- the divisor decides the GCD test
pub decided_by_divisor : (r : Reach) (us : List Unknown) (right : ℤ) (b : Bool) → Summarizes r us
    → ((b ≡ true) ↔ (r.divisor ∣ unsigned_abs right)) → (not b ≡ true) ↔ IsRefutedByGcd (equation us right)
decided_by_divisor r us right true h is =
    (λ (t : false ≡ true). absurd cc, λ i. absurd (i.remains (dvd_trans i.divisor (h.divisor.greatest i.divisor i.greatest.divides) (is.0 refl))))
decided_by_divisor r us right false h is =
    (λ t. record { divisor = r.divisor; greatest = h.divisor; remains = λ d. let t : false ≡ true = is.1 d in absurd cc }, λ e. refl)

-- a comparison that came out false, also of numbers read back from bits
pub not_less : (a b x y : ℤ) → x ≡ a → y ≡ b → int_lt x y ≡ false → ¬ (a <ℤ b)
not_less a b x y e f t k = by_lt_z x y (λ (l : x <ℤ y). let yes : int_lt x y ≡ true = grind (arith, ints) in absurd cc) (λ (l : y ≤ℤ x). omega (arith, ints))

-- ---- sums joined from parts

pub within_left : (limit : ℕ) (us vs : List Unknown) → CoefficientsWithin limit (us ++ vs) → CoefficientsWithin limit us
within_left limit [] vs all = All-nil (λ (u : Unknown). IsWithin limit u.coefficient)
within_left limit (u ∷ us) vs all =
    let P : Unknown → Type 0 = λ w. IsWithin limit w.coefficient in
    All-cons P u us (All-head P u (us ++ vs) all) (within_left limit us vs (All-tail P u (us ++ vs) all))

pub within_right : (limit : ℕ) (us vs : List Unknown) → CoefficientsWithin limit (us ++ vs) → CoefficientsWithin limit vs
within_right limit [] vs all = all
within_right limit (u ∷ us) vs all = within_right limit us vs (All-tail (λ (w : Unknown). IsWithin limit w.coefficient) u (us ++ vs) all)

-- the counters of two rows of loops
pub counters_joined : (r q : Reach) (us : List Unknown) (es ls fs ms : List ℤ) (ns ks : List ℕ) → fs ≡ drop (length ns) es → ms ≡ drop (length ns) ls
    → Summarizes r (us ++ counters es ls ns) → ((vs : List Unknown) → Summarizes r vs → Summarizes q (vs ++ counters fs ms ks)) → Summarizes q (us ++ counters es ls (ns ++ ks))
counters_joined r q us es ls fs ms ns ks e f h more =
    let whole : (us ++ counters es ls ns) ++ counters fs ms ks ≡ us ++ counters es ls (ns ++ ks) =
    append_assoc us (counters es ls ns) (counters fs ms ks)
    ∙ ap (λ (cs : List ℤ). us ++ (counters es ls ns ++ counters cs ms ks)) e
    ∙ ap (λ (cs : List ℤ). us ++ (counters es ls ns ++ counters (drop (length ns) es) cs ks)) f
    ∙ ap (λ (vs : List Unknown). us ++ vs) (sym (counters-append es ls ns ks)) in
    subst (λ (vs : List Unknown). Summarizes q vs) whole (more (us ++ counters es ls ns) h)

pub counters_first_within : (limit : ℕ) (es ls : List ℤ) (ns ks : List ℕ) → CoefficientsWithin limit (counters es ls (ns ++ ks)) → CoefficientsWithin limit (counters es ls ns)
counters_first_within limit es ls ns ks all =
    within_left limit (counters es ls ns) (counters (drop (length ns) es) (drop (length ns) ls) ks) (subst (λ (us : List Unknown). CoefficientsWithin limit us) (counters-append es ls ns ks) all)

pub counters_last_within : (limit : ℕ) (es ls fs ms : List ℤ) (ns ks : List ℕ) → fs ≡ drop (length ns) es → ms ≡ drop (length ns) ls
    → CoefficientsWithin limit (counters es ls (ns ++ ks)) → CoefficientsWithin limit (counters fs ms ks)
counters_last_within limit es ls fs ms ns ks e f all =
    let there = within_right limit (counters es ls ns) (counters (drop (length ns) es) (drop (length ns) ls) ks) (subst (λ (us : List Unknown). CoefficientsWithin limit us) (counters-append es ls ns ks) all) in
    subst (λ (cs : List ℤ). CoefficientsWithin limit (counters fs cs ks)) (sym f) (subst (λ (cs : List ℤ). CoefficientsWithin limit (counters cs (drop (length ns) ls) ks)) (sym e) there)

-- the four parts of an equation's sum, one after another
pub four_joined : (a b d q : Reach) (us vs ws xs : List Unknown) → Summarizes a us → ((ys : List Unknown) → Summarizes a ys → Summarizes b (ys ++ vs))
    → ((ys : List Unknown) → Summarizes b ys → Summarizes d (ys ++ ws)) → ((ys : List Unknown) → Summarizes d ys → Summarizes q (ys ++ xs)) → Summarizes q (us ++ (vs ++ (ws ++ xs)))
four_joined a b d q us vs ws xs h f g k =
    let grouped : ((us ++ vs) ++ ws) ++ xs ≡ us ++ (vs ++ (ws ++ xs)) = append_assoc (us ++ vs) ws xs ∙ append_assoc us vs (ws ++ xs) in
    subst (λ (ys : List Unknown). Summarizes q ys) grouped (k ((us ++ vs) ++ ws) (g (us ++ vs) (f us h)))

-- two unknowns, one after another
pub two_pushed : (a b q : Reach) (us : List Unknown) (u v : Unknown) → Summarizes a us → ((ys : List Unknown) → Summarizes a ys → Summarizes b (ys ++ u ∷ []))
    → ((ys : List Unknown) → Summarizes b ys → Summarizes q (ys ++ v ∷ [])) → Summarizes q (us ++ u ∷ v ∷ [])
two_pushed a b q us u v h f g = subst (λ (ys : List Unknown). Summarizes q ys) (append_assoc us (u ∷ []) (v ∷ [])) (g (us ++ u ∷ []) (f us h))

-- some loop takes no turn, or the one that differs fewer than two
pub box_decided : (n : ℕ) (ss ls es fs : List ℕ) (a b c d e : Bool) → ((a ≡ true) ↔ (n < 2)) → ((b ≡ true) ↔ Contains ss 0) → ((c ≡ true) ↔ Contains ls 0)
    → ((d ≡ true) ↔ Contains es 0) → ((e ≡ true) ↔ Contains fs 0) → (((a || (b || c)) || (d || e)) ≡ true) ↔ ((n < 2) ⊎ Contains (ss ++ (ls ++ (es ++ fs))) 0)
box_decided n ss ls es fs true b c d e ha hb hc hd he = (λ t. inl (ha.0 refl), λ k. refl)
box_decided n ss ls es fs false true c d e ha hb hc hd he = (λ t. inr (Contains-append_left ss (ls ++ (es ++ fs)) 0 (hb.0 refl)), λ k. refl)
box_decided n ss ls es fs false false true d e ha hb hc hd he =
    (λ t. inr (Contains-append_right ss (ls ++ (es ++ fs)) 0 (Contains-append_left ls (es ++ fs) 0 (hc.0 refl))), λ k. refl)
box_decided n ss ls es fs false false false true e ha hb hc hd he =
    (λ t. inr (Contains-append_right ss (ls ++ (es ++ fs)) 0 (Contains-append_right ls (es ++ fs) 0 (Contains-append_left es fs 0 (hd.0 refl)))), λ k. refl)
box_decided n ss ls es fs false false false false true ha hb hc hd he =
    (λ t. inr (Contains-append_right ss (ls ++ (es ++ fs)) 0 (Contains-append_right ls (es ++ fs) 0 (Contains-append_right es fs 0 (he.0 refl)))), λ k. refl)
box_decided n ss ls es fs false false false false false ha hb hc hd he = (λ (t : false ≡ true). absurd cc, none)
  where
    in_last : Contains es 0 ⊎ Contains fs 0 → false ≡ true
    in_last (inl k) = hd.1 k
    in_last (inr k) = he.1 k

    in_rest : Contains ls 0 ⊎ Contains (es ++ fs) 0 → false ≡ true
    in_rest (inl k) = hc.1 k
    in_rest (inr k) = in_last (Contains-append_cases es fs 0 k)

    in_all : Contains ss 0 ⊎ Contains (ls ++ (es ++ fs)) 0 → false ≡ true
    in_all (inl k) = hb.1 k
    in_all (inr k) = in_rest (Contains-append_cases ls (es ++ fs) 0 k)

    none : (n < 2) ⊎ Contains (ss ++ (ls ++ (es ++ fs))) 0 → false ≡ true
    none (inl k) = ha.1 k
    none (inr k) = in_all (Contains-append_cases ss (ls ++ (es ++ fs)) 0 k)

-- ---- a dimension or a case more

pub any_left : {X : Type 0} (P : X → Type 0) (xs ys : List X) → Any P xs → Any P (xs ++ ys)
any_left P xs ys a =
    let long : length (xs ++ ys) ≡ length xs + length ys = length-append xs ys in
    (a.0, a.1, omega (arith, a.2, long), get_or_append_left xs ys a.1 a.0 a.2 ∙ a.3, a.4)

pub any_push_cases : {X : Type 0} (P : X → Type 0) (xs : List X) (y : X) → Any P (xs ++ y ∷ []) → Any P xs ⊎ P y
any_push_cases P [] y (zero, x, l, e, p) = inr (subst P (sym e) p)
any_push_cases P [] y (suc k, x, l, e, p) = absurd (omega (arith, l))
any_push_cases P (z ∷ xs) y (zero, x, l, e, p) = inl (zero, x, omega arith, e, p)
any_push_cases P (z ∷ xs) y (suc k, x, l, e, p) =
    ⊎_elim (λ (a : Any P xs). inl (suc a.0, a.1, omega (arith, a.2), a.3, a.4)) (λ (q : P y). inr q) (any_push_cases P xs y (k, x, omega (arith, l), e, p))

pub any_more : {X : Type 0} {B : Type 0} (P : X → Type 0) (xs : List X) (i : ℕ) (d : X) (before now after : Bool) → i < length xs
    → ((before ≡ true) ↔ (B ⊎ Any P (take i xs))) → ((now ≡ true) ↔ P (get_or xs i d)) → after ≡ (before || now) → (after ≡ true) ↔ (B ⊎ Any P (take (i + 1) xs))
any_more {X} {B} P xs i d before now after l h here is =
    (λ t. forth before now (sym is ∙ t) h here, λ k. is ∙ back before now (split k) h here)
  where
    more : take (i + 1) xs ≡ take i xs ++ get_or xs i d ∷ []
    more = take_more xs i d l

    old : Any P (take i xs) → Any P (take (i + 1) xs)
    old a = subst (λ (ys : List X). Any P ys) (sym more) (any_left P (take i xs) (get_or xs i d ∷ []) a)

    new : P (get_or xs i d) → Any P (take (i + 1) xs)
    new p = subst (λ (ys : List X). Any P ys) (sym more) (Any-push P (take i xs) (get_or xs i d) p)

    split : B ⊎ Any P (take (i + 1) xs) → B ⊎ (Any P (take i xs) ⊎ P (get_or xs i d))
    split (inl b) = inl b
    split (inr a) = inr (any_push_cases P (take i xs) (get_or xs i d) (subst (λ (ys : List X). Any P ys) more a))

    forth : (b n : Bool) → (b || n) ≡ true → ((b ≡ true) ↔ (B ⊎ Any P (take i xs))) → ((n ≡ true) ↔ P (get_or xs i d)) → B ⊎ Any P (take (i + 1) xs)
    forth true n t g k = ⊎_elim (λ (e : B). inl e) (λ (a : Any P (take i xs)). inr (old a)) (g.0 refl)
    forth false true t g k = inr (new (k.0 refl))
    forth false false t g k = let e : false ≡ true = t in absurd cc

    back : (b n : Bool) → B ⊎ (Any P (take i xs) ⊎ P (get_or xs i d)) → ((b ≡ true) ↔ (B ⊎ Any P (take i xs))) → ((n ≡ true) ↔ P (get_or xs i d)) → (b || n) ≡ true
    back true n s g k = refl
    back false n (inl e) g k = let f : false ≡ true = g.1 (inl e) in absurd cc
    back false n (inr (inl a)) g k = let f : false ≡ true = g.1 (inr a) in absurd cc
    back false n (inr (inr p)) g k = k.1 p

-- the pair that a turn over two lists gives
pub pair_at : {A B : Type 0} (ks : List A) (vs : List B) (i : ℕ) (s : A) (t : B) → i < length ks → i < length vs → ((d : A) → s ≡ get_or ks i d) → ((d : B) → t ≡ get_or vs i d)
    → (e : A × B) → (s, t) ≡ get_or (zip ks vs) i e
pair_at {A} {B} ks vs i s t l m es et e =
    ap (λ (a : A). (a, t)) (es e.0) ∙ ap (λ (b : B). (get_or ks i e.0, b)) (et e.1) ∙ sym (get_or-zip ks vs i e l m)

pub in_zip : {A B : Type 0} (ks : List A) (vs : List B) (i : ℕ) → i < length ks → i < length vs → i < length (zip ks vs)
in_zip ks vs i l m = let e : length (zip ks vs) ≡ min (length ks) (length vs) = length-zip ks vs in omega arith

pub pairs_refuted_more : {A B E : Type 0} (P : A × B → Type 0) (ks : List A) (vs : List B) (i j : ℕ) (s : A) (t : B) (b f : Bool) → j ≡ i + 1 → i < length ks → i < length vs
    → ((d : A) → s ≡ get_or ks i d) → ((d : B) → t ≡ get_or vs i d) → ((b ≡ true) ↔ (E ⊎ Any P (take i (zip ks vs)))) → ((f ≡ true) ↔ P (s, t))
    → ((b || f) ≡ true) ↔ (E ⊎ Any P (take j (zip ks vs)))
pairs_refuted_more {A} {B} {E} P ks vs i j s t b f next l m es et h here =
    subst (λ (k : ℕ). ((b || f) ≡ true) ↔ (E ⊎ Any P (take k (zip ks vs)))) (sym next)
    (any_more {B = E} P (zip ks vs) i (s, t) b f (b || f) (in_zip ks vs i l m) h
    (subst (λ (p : A × B). (f ≡ true) ↔ P p) (pair_at ks vs i s t l m es et (s, t)) here) refl)

pub pairs_within_more : {A B : Type 0} (P : A × B → Type 0) (ks : List A) (vs : List B) (i j : ℕ) (s : A) (t : B) → j ≡ i + 1 → i < length ks → i < length vs
    → ((d : A) → s ≡ get_or ks i d) → ((d : B) → t ≡ get_or vs i d) → All P (take i (zip ks vs)) → P (s, t) → All P (take j (zip ks vs))
pairs_within_more {A} {B} P ks vs i j s t next l m es et h here =
    subst (λ (k : ℕ). All P (take k (zip ks vs))) (sym next)
    (All-more P (zip ks vs) i (s, t) (in_zip ks vs i l m) h (subst P (pair_at ks vs i s t l m es et (s, t)) here))

pub pair_within : {A B : Type 0} (P : A × B → Type 0) (ks : List A) (vs : List B) (i : ℕ) (s : A) (t : B) → i < length ks → i < length vs
    → ((d : A) → s ≡ get_or ks i d) → ((d : B) → t ≡ get_or vs i d) → All P (zip ks vs) → P (s, t)
pair_within P ks vs i s t l m es et all = subst P (sym (pair_at ks vs i s t l m es et (s, t))) (all i (s, t) (in_zip ks vs i l m))

-- numbers below one more
pub below_next : {P : Type 0} (m i : ℕ) → m < i + 1 → (m < i → P) → (m ≡ i → P) → P
below_next {P} m i l less same = by (nat_lt m i) refl
  where
    by : (b : Bool) → nat_lt m i ≡ b → P
    by true e = less ((Decides-ltb m i).0 e)
    by false e = same (grind (arith, nat_tests))

pub both_more : {P Q : ℕ → Type 0} (i : ℕ) → ((m : ℕ) → m < i → P m × Q m) → P i → Q i → (m : ℕ) → m < i + 1 → P m × Q m
both_more {P} {Q} i h p q m l =
    below_next m i l (λ (k : m < i). h m k) (λ (e : m ≡ i). (subst P (sym e) p, subst Q (sym e) q))

pub cases_more : {P Q : ℕ → Type 0} (i : ℕ) (all f g : Bool) → ((all ≡ true) ↔ ((m : ℕ) → m < i → P m × Q m)) → ((f ≡ true) ↔ P i) → ((g ≡ true) ↔ Q i)
    → (((all && f) && g) ≡ true) ↔ ((m : ℕ) → m < i + 1 → P m × Q m)
cases_more {P} {Q} i true true true h hf hg = (λ t. both_more {P = P} {Q = Q} i (h.0 refl) (hf.0 refl) (hg.0 refl), λ k. refl)
cases_more {P} {Q} i true true false h hf hg = (λ (t : false ≡ true). absurd cc, λ k. hg.1 (k i (omega arith)).1)
cases_more {P} {Q} i true false g h hf hg = (λ t. let e : false ≡ true = t in absurd cc, λ k. let e : false ≡ true = hf.1 (k i (omega arith)).0 in absurd cc)
cases_more {P} {Q} i false f g h hf hg = (λ t. let e : false ≡ true = t in absurd cc, λ k. let e : false ≡ true = h.1 (λ m l. k m (omega arith)) in absurd cc)
