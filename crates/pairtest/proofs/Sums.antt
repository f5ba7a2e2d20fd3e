-- Sums of unknowns: their values, divisors and ends.
use Rattle.std.proofs.Common.{◌≡◌, ℕ, ℤ, pos, negsuc, suc, ◌+◌, ◌-◌, ◌*◌, ◌^◌, ◌≤◌, ◌+ℤ◌, ◌*ℤ◌, ◌≤ℤ◌, ◌<ℤ◌, inl, inr, unsigned_abs, List, [], ◌∷◌, ◌++◌, mul-le-mul_left, sym, ap, ◌∙◌, subst, arith}
use Rattle.std.specs.Int.{◌∣◌, int_min, int_max, IsGcd, saturate_signed, w128}
use Rattle.std.proofs.lemmas.Int.{ints, clamps, by_lt_z, unsigned_abs-mul}
use Rattle.std.proofs.lemmas.Nat.Gcd.{dvd-zero, dvd_trans}
use Rattle.std.proofs.Math.Nat.{dvd-add, dvd-sub, dvd-mul_right_of_dvd}
use Rattle.std.proofs.lemmas.List.Elements.{All-nil, All-cons, All-head, All-tail, All-push}
use Rattle.pairtest.specs.Equations.{Unknown, Equation, sum_at, AreValues, HasSolution, DividesAll, IsGreatestDivisor, last_product, least_sum, greatest_sum, IsRefuted}

-- ---- joined sums

grouped : (a b c : ℤ) → a +ℤ (b +ℤ c) ≡ (a +ℤ b) +ℤ c
grouped a b c = omega (arith, ints)

pub least_sum-append : (us vs : List Unknown) → least_sum (us ++ vs) ≡ least_sum us +ℤ least_sum vs
least_sum-append [] vs = omega (arith, ints)
least_sum-append (u ∷ us) vs =
    ap (λ (n : ℤ). int_min (last_product u) (pos 0) +ℤ n) (least_sum-append us vs) ∙ grouped (int_min (last_product u) (pos 0)) (least_sum us) (least_sum vs)

pub greatest_sum-append : (us vs : List Unknown) → greatest_sum (us ++ vs) ≡ greatest_sum us +ℤ greatest_sum vs
greatest_sum-append [] vs = omega (arith, ints)
greatest_sum-append (u ∷ us) vs =
    ap (λ (n : ℤ). int_max (last_product u) (pos 0) +ℤ n) (greatest_sum-append us vs) ∙ grouped (int_max (last_product u) (pos 0)) (greatest_sum us) (greatest_sum vs)

-- 0 lies between the ends
pub least_sum-below : (us : List Unknown) → least_sum us ≤ℤ pos 0
least_sum-below [] = omega (arith, ints)
least_sum-below (u ∷ us) = down_more (last_product u) (least_sum us) (least_sum-below us)
  where
    down_more : (p s : ℤ) → s ≤ℤ pos 0 → (int_min p (pos 0) +ℤ s) ≤ℤ pos 0
    down_more p s h = omega (arith, ints, clamps)

pub greatest_sum-above : (us : List Unknown) → pos 0 ≤ℤ greatest_sum us
greatest_sum-above [] = omega (arith, ints)
greatest_sum-above (u ∷ us) = up_more (last_product u) (greatest_sum us) (greatest_sum-above us)
  where
    up_more : (p s : ℤ) → pos 0 ≤ℤ s → pos 0 ≤ℤ (int_max p (pos 0) +ℤ s)
    up_more p s h = omega (arith, ints, clamps)

-- ---- the ends bound the sum

-- a product lies between that at 0 and that at the last value
product_between : (c : ℤ) (k n : ℕ) → k ≤ n → (int_min (c *ℤ pos n) (pos 0) ≤ℤ (c *ℤ pos k)) × ((c *ℤ pos k) ≤ℤ int_max (c *ℤ pos n) (pos 0))
product_between (pos c) k n h =
    let scaled : c * k ≤ c * n = mul-le-mul_left c h in
    (omega (arith, ints, clamps), omega (arith, ints, clamps))
product_between (negsuc c) k n h =
    let scaled : suc c * k ≤ suc c * n = mul-le-mul_left (suc c) h in
    (omega (arith, ints, clamps), omega (arith, ints, clamps))

-- no value of the sum is outside its ends
pub sum_between : (us : List Unknown) (ks : List ℕ) → AreValues us ks → (least_sum us ≤ℤ sum_at us ks) × (sum_at us ks ≤ℤ greatest_sum us)
sum_between [] [] h = (omega (arith, ints), omega (arith, ints))
sum_between [] (k ∷ ks) h = absurd h
sum_between (u ∷ us) [] h = absurd h
sum_between (u ∷ us) (k ∷ ks) h =
    let one = product_between u.coefficient k (u.values - 1) (omega (arith, h.0)) in
    let rest = sum_between us ks h.1 in
    (both _ _ _ _ one.0 rest.0, both _ _ _ _ one.1 rest.1)
  where
    both : (a b c d : ℤ) → a ≤ℤ b → c ≤ℤ d → (a +ℤ c) ≤ℤ (b +ℤ d)
    both a b c d p q = omega (arith, ints)

-- ---- divisors

-- what divides both divides the sum
divides_sum : (d : ℕ) (a b : ℤ) → d ∣ unsigned_abs a → d ∣ unsigned_abs b → d ∣ unsigned_abs (a +ℤ b)
divides_sum d a b p q =
    by_lt_z a (pos 0)
    (λ (low : a <ℤ pos 0). by_lt_z b (pos 0)
    (λ (lower : b <ℤ pos 0). same_signs (omega (arith, ints)))
    (λ (high : pos 0 ≤ℤ b). other_signs (omega (arith, ints))))
    (λ (high : pos 0 ≤ℤ a). by_lt_z b (pos 0)
    (λ (low : b <ℤ pos 0). other_signs (omega (arith, ints)))
    (λ (higher : pos 0 ≤ℤ b). same_signs (omega (arith, ints))))
  where
    same_signs : unsigned_abs (a +ℤ b) ≡ unsigned_abs a + unsigned_abs b → d ∣ unsigned_abs (a +ℤ b)
    same_signs e = subst (λ (n : ℕ). d ∣ n) (sym e) (dvd-add d p q)

    other_signs : unsigned_abs (a +ℤ b) ≡ (unsigned_abs a - unsigned_abs b) + (unsigned_abs b - unsigned_abs a) → d ∣ unsigned_abs (a +ℤ b)
    other_signs e = subst (λ (n : ℕ). d ∣ n) (sym e) (dvd-add d (dvd-sub d p q) (dvd-sub d q p))

divides_product : (d : ℕ) (a b : ℤ) → d ∣ unsigned_abs a → d ∣ unsigned_abs (a *ℤ b)
divides_product d a b p = subst (λ (n : ℕ). d ∣ n) (sym (unsigned_abs-mul a b)) (dvd-mul_right_of_dvd d p (unsigned_abs b))

-- a common divisor of the coefficients divides the sum
pub divides_sum_at : (d : ℕ) (us : List Unknown) (ks : List ℕ) → DividesAll d us → d ∣ unsigned_abs (sum_at us ks)
divides_sum_at d [] ks h = dvd-zero d
divides_sum_at d (u ∷ us) [] h = dvd-zero d
divides_sum_at d (u ∷ us) (k ∷ ks) h =
    let P : Unknown → Type 0 = λ v. d ∣ unsigned_abs v.coefficient in
    divides_sum d (u.coefficient *ℤ pos k) (sum_at us ks)
    (divides_product d u.coefficient (pos k) (All-head P u us h))
    (divides_sum_at d us ks (All-tail P u us h))

pub greatest_divisor-push : (us : List Unknown) (u : Unknown) (g r : ℕ) → IsGreatestDivisor us g → IsGcd g (unsigned_abs u.coefficient) r → IsGreatestDivisor (us ++ u ∷ []) r
greatest_divisor-push us u g r h is =
    record {
      divides = All-push (λ (v : Unknown). r ∣ unsigned_abs v.coefficient) us u (weaker us h.divides) is.1;
      greatest = λ d all. is.2 d (h.greatest d (front d us all)) (back d us all);
    }
  where
    weaker : (vs : List Unknown) → DividesAll g vs → DividesAll r vs
    weaker vs all k d l = dvd_trans r is.0 (all k d l)

    front : (d : ℕ) (vs : List Unknown) → DividesAll d (vs ++ u ∷ []) → DividesAll d vs
    front d [] all = All-nil (λ (v : Unknown). d ∣ unsigned_abs v.coefficient)
    front d (v ∷ vs) all =
        let P : Unknown → Type 0 = λ w. d ∣ unsigned_abs w.coefficient in
        All-cons P v vs (All-head P v (vs ++ u ∷ []) all) (front d vs (All-tail P v (vs ++ u ∷ []) all))

    back : (d : ℕ) (vs : List Unknown) → DividesAll d (vs ++ u ∷ []) → d ∣ unsigned_abs u.coefficient
    back d [] all = All-head (λ (w : Unknown). d ∣ unsigned_abs w.coefficient) u [] all
    back d (v ∷ vs) all = back d vs (All-tail (λ (w : Unknown). d ∣ unsigned_abs w.coefficient) v (vs ++ u ∷ []) all)

-- ---- refuted equations

-- an equation that is refuted has no solution
pub refuted_has_none : (e : Equation) → IsRefuted e → ¬ (HasSolution e)
refuted_has_none e (inl r) s =
    r.remains (subst (λ (n : ℤ). r.divisor ∣ unsigned_abs n) s.equal (divides_sum_at r.divisor e.unknowns s.values r.greatest.divides))
refuted_has_none e (inr (inl low)) s = let b = sum_between e.unknowns s.values s.allowed in omega (arith, ints, s.equal, b.0, low)
refuted_has_none e (inr (inr high)) s = let b = sum_between e.unknowns s.values s.allowed in omega (arith, ints, s.equal, b.1, high)

-- ---- ends as far as 128 bits hold them

pub saturated_low : (z : ℤ) → z ≤ℤ pos 0 → saturate_signed w128 z ≡ int_max (negsuc (2 ^ 127 - 1)) z
saturated_low (pos n) h = omega (arith, ints, clamps)
saturated_low (negsuc n) h = omega (arith, ints, clamps)

pub saturated_high : (z : ℤ) → pos 0 ≤ℤ z → saturate_signed w128 z ≡ int_min (pos (2 ^ 127 - 1)) z
saturated_high (pos n) h = omega (arith, ints, clamps)
saturated_high (negsuc n) h = absurd (omega (arith, ints))

-- one more product at the least end
pub saturated_low_more : (l s p : ℤ) → s ≤ℤ pos 0 → p ≤ℤ pos 0 → l ≡ saturate_signed w128 s → saturate_signed w128 (l +ℤ p) ≡ saturate_signed w128 (s +ℤ p)
saturated_low_more l s p hs hp e =
    let is : l ≡ int_max (negsuc (2 ^ 127 - 1)) s = e ∙ saturated_low s hs in
    saturated_low (l +ℤ p) (omega (arith, ints, clamps)) ∙ cut ∙ sym (saturated_low (s +ℤ p) (omega (arith, ints)))
  where
    cut : int_max (negsuc (2 ^ 127 - 1)) (l +ℤ p) ≡ int_max (negsuc (2 ^ 127 - 1)) (s +ℤ p)
    cut = let is : l ≡ int_max (negsuc (2 ^ 127 - 1)) s = e ∙ saturated_low s hs in omega (arith, ints, clamps)

pub saturated_high_more : (l s p : ℤ) → pos 0 ≤ℤ s → pos 0 ≤ℤ p → l ≡ saturate_signed w128 s → saturate_signed w128 (l +ℤ p) ≡ saturate_signed w128 (s +ℤ p)
saturated_high_more l s p hs hp e =
    let is : l ≡ int_min (pos (2 ^ 127 - 1)) s = e ∙ saturated_high s hs in
    saturated_high (l +ℤ p) (omega (arith, ints, clamps)) ∙ cut ∙ sym (saturated_high (s +ℤ p) (omega (arith, ints)))
  where
    cut : int_min (pos (2 ^ 127 - 1)) (l +ℤ p) ≡ int_min (pos (2 ^ 127 - 1)) (s +ℤ p)
    cut = let is : l ≡ int_min (pos (2 ^ 127 - 1)) s = e ∙ saturated_high s hs in omega (arith, ints, clamps)
