-- Sums of counters that differ in one of them.
use Rattle.std.proofs.Common.{◌≡◌, ◌≢◌, ◌⊎◌, inl, inr, ℕ, ℤ, pos, zero, suc, ◌+ℤ◌, ◌-ℤ◌, ◌*ℤ◌, List, [], ◌∷◌, drop, get_or, refl, sym, ap, ◌∙◌, subst, arith}
use Rattle.std.proofs.lemmas.Int.{ints}
use Rattle.pairtest.specs.DirectionVectors.{coefficient}
use Rattle.pairtest.specs.Meetings.{counter_sum}
use Rattle.pairtest.proofs.Solutions.{zero-times}
use Rattle.pairtest_cover.proofs.Products.{times-zero, times-difference}

-- the coefficients behind the first
rest_at : (cs : List ℤ) (i : ℕ) → coefficient (drop 1 cs) i ≡ coefficient cs (suc i)
rest_at [] i = refl
rest_at (c ∷ cs) i = refl

-- lists of the same coefficients
pub same_coefficients : (cs es : List ℤ) (ks : List ℕ) → ((i : ℕ) → coefficient cs i ≡ coefficient es i) → counter_sum cs ks ≡ counter_sum es ks
same_coefficients cs es [] same = refl
same_coefficients cs es (k ∷ ks) same =
    ap (λ (c : ℤ). c *ℤ pos k +ℤ counter_sum (drop 1 cs) ks) (same 0)
    ∙ ap (λ (z : ℤ). coefficient es 0 *ℤ pos k +ℤ z) (same_coefficients (drop 1 cs) (drop 1 es) ks (λ i. rest_at cs i ∙ same (suc i) ∙ sym (rest_at es i)))

-- a counter whose coefficient is 0, or that is the same on both sides
abbrev pub AreAlikeAt : List ℤ → List ℕ → List ℕ → ℕ → Type 0
AreAlikeAt cs ks ls i = (coefficient cs i ≡ pos 0) ⊎ (get_or ks i 0 ≡ get_or ls i 0)

same_product : (c : ℤ) (k l : ℕ) → (c ≡ pos 0) ⊎ (k ≡ l) → c *ℤ pos k ≡ c *ℤ pos l
same_product c k l (inl e) = ap (λ (z : ℤ). z *ℤ pos k) e ∙ zero-times (pos k) ∙ sym (zero-times (pos l)) ∙ ap (λ (z : ℤ). z *ℤ pos l) (sym e)
same_product c k l (inr e) = ap (λ (n : ℕ). c *ℤ pos n) e

both_same : (a b s t : ℤ) → a ≡ b → s ≡ t → a +ℤ s ≡ b +ℤ t
both_same a b s t p q = omega (arith, ints, p, q)

-- what the counters behind the first are
rest_alike : (cs : List ℤ) (ks ls js is : List ℕ) (i : ℕ) → get_or js (suc i) 0 ≡ get_or ks i 0 → get_or is (suc i) 0 ≡ get_or ls i 0 → AreAlikeAt cs js is (suc i) → AreAlikeAt (drop 1 cs) ks ls i
rest_alike cs ks ls js is i e f (inl h) = inl (rest_at cs i ∙ h)
rest_alike cs ks ls js is i e f (inr h) = inr (sym e ∙ h ∙ f)

-- all are alike
pub alike_sum : (cs : List ℤ) (ks ls : List ℕ) → ((i : ℕ) → AreAlikeAt cs ks ls i) → counter_sum cs ks ≡ counter_sum cs ls
alike_sum cs [] [] alike = refl
alike_sum cs [] (l ∷ ls) alike =
    sym (both_same (coefficient cs 0 *ℤ pos l) (pos 0) (counter_sum (drop 1 cs) ls) (pos 0) (sym (same_product (coefficient cs 0) 0 l (alike 0)) ∙ times-zero (coefficient cs 0))
    (sym (alike_sum (drop 1 cs) [] ls (λ i. rest_alike cs [] ls [] (l ∷ ls) i refl refl (alike (suc i))))))
alike_sum cs (k ∷ ks) [] alike =
    both_same (coefficient cs 0 *ℤ pos k) (pos 0) (counter_sum (drop 1 cs) ks) (pos 0) (same_product (coefficient cs 0) k 0 (alike 0) ∙ times-zero (coefficient cs 0))
    (alike_sum (drop 1 cs) ks [] (λ i. rest_alike cs ks [] (k ∷ ks) [] i refl refl (alike (suc i))))
alike_sum cs (k ∷ ks) (l ∷ ls) alike =
    both_same (coefficient cs 0 *ℤ pos k) (coefficient cs 0 *ℤ pos l) (counter_sum (drop 1 cs) ks) (counter_sum (drop 1 cs) ls) (same_product (coefficient cs 0) k l (alike 0))
    (alike_sum (drop 1 cs) ks ls (λ i. rest_alike cs ks ls (k ∷ ks) (l ∷ ls) i refl refl (alike (suc i))))

-- all but one are alike
abbrev pub IsMovedSum : List ℤ → List ℕ → List ℕ → ℕ → Type 0
IsMovedSum cs ks ls p = counter_sum cs ls ≡ counter_sum cs ks +ℤ coefficient cs p *ℤ (pos (get_or ls p 0) -ℤ pos (get_or ks p 0))

moved_first : (c : ℤ) (k l : ℕ) (s t : ℤ) → s ≡ t → c *ℤ pos l +ℤ t ≡ (c *ℤ pos k +ℤ s) +ℤ c *ℤ (pos l -ℤ pos k)
moved_first c k l s t e = joined (c *ℤ pos l) (c *ℤ pos k) (c *ℤ (pos l -ℤ pos k)) s t (times-difference (pos l) (pos k) c) e
  where
    joined : (x y d s t : ℤ) → d +ℤ y ≡ x → s ≡ t → x +ℤ t ≡ (y +ℤ s) +ℤ d
    joined x y d s t p q = omega (arith, ints, p, q)

moved_behind : (x y s t d : ℤ) → y ≡ x → t ≡ s +ℤ d → x +ℤ t ≡ (y +ℤ s) +ℤ d
moved_behind x y s t d p q = omega (arith, ints, p, q)

moved_at : (cs : List ℤ) (k l : ℕ) (ks ls : List ℕ) (p : ℕ) → ((i : ℕ) → i ≢ p → AreAlikeAt cs (k ∷ ks) (l ∷ ls) i)
    → ((q : ℕ) → ((i : ℕ) → i ≢ q → AreAlikeAt (drop 1 cs) ks ls i) → IsMovedSum (drop 1 cs) ks ls q) → IsMovedSum cs (k ∷ ks) (l ∷ ls) p
moved_at cs k l ks ls zero alike more =
    moved_first (coefficient cs 0) k l (counter_sum (drop 1 cs) ks) (counter_sum (drop 1 cs) ls)
    (alike_sum (drop 1 cs) ks ls (λ i. rest_alike cs ks ls (k ∷ ks) (l ∷ ls) i refl refl (alike (suc i) (λ (e : suc i ≡ 0). absurd cc))))
moved_at cs k l ks ls (suc p) alike more =
    let rest : IsMovedSum (drop 1 cs) ks ls p =
    more p (λ i n. rest_alike cs ks ls (k ∷ ks) (l ∷ ls) i refl refl (alike (suc i) (λ (e : suc i ≡ suc p). n (omega (arith, e))))) in
    moved_behind (coefficient cs 0 *ℤ pos l) (coefficient cs 0 *ℤ pos k) (counter_sum (drop 1 cs) ks) (counter_sum (drop 1 cs) ls) (coefficient cs (suc p) *ℤ (pos (get_or ls p 0) -ℤ pos (get_or ks p 0)))
    (same_product (coefficient cs 0) k l (alike 0 (λ (e : 0 ≡ suc p). absurd cc)))
    (rest ∙ ap (λ (c : ℤ). counter_sum (drop 1 cs) ks +ℤ c *ℤ (pos (get_or ls p 0) -ℤ pos (get_or ks p 0))) (rest_at cs p))

-- no counters are counters 0
none_first : (cs : List ℤ) → counter_sum cs (0 ∷ []) ≡ pos 0
none_first cs = omega (arith, ints, times-zero (coefficient cs 0))

none_at : (p : ℕ) → ◌≡◌ {A = ℕ} (get_or (0 ∷ []) p 0) 0
none_at zero = refl
none_at (suc p) = refl

pub moved_sum : (cs : List ℤ) (ks ls : List ℕ) (p : ℕ) → ((i : ℕ) → i ≢ p → AreAlikeAt cs ks ls i) → IsMovedSum cs ks ls p
moved_sum cs [] [] p alike = omega (arith, ints, times-zero (coefficient cs p))
moved_sum cs [] (l ∷ ls) p alike =
    moved_at cs 0 l [] ls p (λ i n. subst (λ (j : ℕ). (coefficient cs i ≡ pos 0) ⊎ (j ≡ get_or (l ∷ ls) i 0)) (sym (none_at i)) (alike i n)) (λ q a. moved_sum (drop 1 cs) [] ls q a)
    ∙ ap (λ (z : ℤ). z +ℤ coefficient cs p *ℤ (pos (get_or (l ∷ ls) p 0) -ℤ pos (get_or (0 ∷ []) p 0))) (none_first cs)
    ∙ ap (λ (j : ℕ). pos 0 +ℤ coefficient cs p *ℤ (pos (get_or (l ∷ ls) p 0) -ℤ pos j)) (none_at p)
moved_sum cs (k ∷ ks) [] p alike =
    sym (none_first cs)
    ∙ moved_at cs k 0 ks [] p (λ i n. subst (λ (j : ℕ). (coefficient cs i ≡ pos 0) ⊎ (get_or (k ∷ ks) i 0 ≡ j)) (sym (none_at i)) (alike i n)) (λ q a. moved_sum (drop 1 cs) ks [] q a)
    ∙ ap (λ (j : ℕ). counter_sum cs (k ∷ ks) +ℤ coefficient cs p *ℤ (pos j -ℤ pos (get_or (k ∷ ks) p 0))) (none_at p)
moved_sum cs (k ∷ ks) (l ∷ ls) p alike = moved_at cs k l ks ls p alike (λ q a. moved_sum (drop 1 cs) ks ls q a)
