-- The counters of loops, as unknowns.
use Rattle.std.proofs.Common.{◌≡◌, ℕ, ℤ, pos, zero, suc, ◌+◌, ◌<◌, ◌-ℤ◌, List, [], ◌∷◌, ◌++◌, length, get_or, take, drop, refl, sym, ap, ◌∙◌, subst, arith}
use Rattle.pairtest.specs.Equations.{Unknown, unknown, IsWithin, CoefficientsWithin}
use Rattle.pairtest.specs.DirectionVectors.{coefficient, counters}

-- one element less, and then more of them
pub drop-first : {A : Type 0} (n : ℕ) (xs : List A) → drop n (drop 1 xs) ≡ drop (suc n) xs
drop-first zero [] = refl
drop-first (suc n) [] = refl
drop-first n (x ∷ xs) = refl

pub counters-append : (es ls : List ℤ) (ms ns : List ℕ) → counters es ls (ms ++ ns) ≡ counters es ls ms ++ counters (drop (length ms) es) (drop (length ms) ls) ns
counters-append es ls [] ns = refl
counters-append es ls (m ∷ ms) ns =
    ap (λ (us : List Unknown). unknown (coefficient es 0 -ℤ coefficient ls 0) m ∷ us)
    (counters-append (drop 1 es) (drop 1 ls) ms ns
    ∙ ap (λ (cs : List ℤ). counters (drop 1 es) (drop 1 ls) ms ++ counters cs (drop (length ms) (drop 1 ls)) ns) (drop-first (length ms) es)
    ∙ ap (λ (cs : List ℤ). counters (drop 1 es) (drop 1 ls) ms ++ counters (drop (suc (length ms)) es) cs ns) (drop-first (length ms) ls))

pub length-counters : (es ls : List ℤ) (ns : List ℕ) → length (counters es ls ns) ≡ length ns
length-counters es ls [] = refl
length-counters es ls (n ∷ ns) = ap suc (length-counters (drop 1 es) (drop 1 ls) ns)

coefficient-next : (cs : List ℤ) (i : ℕ) → coefficient (drop 1 cs) i ≡ coefficient cs (suc i)
coefficient-next [] i = refl
coefficient-next (c ∷ cs) i = refl

-- the unknown of the loop at a place
pub get_or-counters : (es ls : List ℤ) (ns : List ℕ) (i : ℕ) (d : Unknown) → i < length ns → get_or (counters es ls ns) i d ≡ unknown (coefficient es i -ℤ coefficient ls i) (get_or ns i 0)
get_or-counters es ls [] i d h = absurd (omega (arith, h))
get_or-counters es ls (n ∷ ns) zero d h = refl
get_or-counters es ls (n ∷ ns) (suc i) d h =
    get_or-counters (drop 1 es) (drop 1 ls) ns i d (omega (arith, h))
    ∙ ap (λ (c : ℤ). unknown (c -ℤ coefficient (drop 1 ls) i) (get_or ns i 0)) (coefficient-next es i)
    ∙ ap (λ (c : ℤ). unknown (coefficient es (suc i) -ℤ c) (get_or ns i 0)) (coefficient-next ls i)

-- a loop's step
pub counters-more : (es ls : List ℤ) (ns : List ℕ) (i : ℕ) → i < length ns
    → counters es ls (take (i + 1) ns) ≡ counters es ls (take i ns) ++ unknown (coefficient es i -ℤ coefficient ls i) (get_or ns i 0) ∷ []
counters-more es ls [] i h = absurd (omega (arith, h))
counters-more es ls (n ∷ ns) zero h = refl
counters-more es ls (n ∷ ns) (suc i) h =
    let next : suc i + 1 ≡ suc (i + 1) = omega arith in
    ap (λ (k : ℕ). counters es ls (take k (n ∷ ns))) next
    ∙ ap (λ (us : List Unknown). unknown (coefficient es 0 -ℤ coefficient ls 0) n ∷ us)
    (counters-more (drop 1 es) (drop 1 ls) ns i (omega (arith, h))
    ∙ ap (λ (c : ℤ). counters (drop 1 es) (drop 1 ls) (take i ns) ++ unknown (c -ℤ coefficient (drop 1 ls) i) (get_or ns i 0) ∷ []) (coefficient-next es i)
    ∙ ap (λ (c : ℤ). counters (drop 1 es) (drop 1 ls) (take i ns) ++ unknown (coefficient es (suc i) -ℤ c) (get_or ns i 0) ∷ []) (coefficient-next ls i))

-- where all coefficients are within a limit, so is the difference at a place
pub counter_within : (limit : ℕ) (es ls : List ℤ) (ns : List ℕ) (i : ℕ) → i < length ns → CoefficientsWithin limit (counters es ls ns) → IsWithin limit (coefficient es i -ℤ coefficient ls i)
counter_within limit es ls ns i h all =
    let d = unknown (pos 0) 0 in
    subst (λ (u : Unknown). IsWithin limit u.coefficient) (get_or-counters es ls ns i d h) (all i d (subst (λ (n : ℕ). i < n) (sym (length-counters es ls ns)) h))
