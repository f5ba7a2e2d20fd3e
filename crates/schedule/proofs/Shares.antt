-- Chunks of plain static: each worker's share.
use Rattle.std.specs.Prelude.{ℕ, zero, suc, ◌≡◌, ◌+◌, ◌*◌, ◌/◌, ◌%◌, ◌<◌, ◌≤◌, min, List, [], ◌∷◌, ◌++◌, length, map, Some, slice_get}
use Rattle.std.proofs.Common.{ap, ◌∙◌, arith, inl, inr}
use Rattle.std.proofs.lemmas.Bool.{cases_lt}
use Rattle.std.proofs.lemmas.Bool.Decides.{nat_tests}
use Rattle.std.proofs.lemmas.List.{map-append, length-append, append-nil}
use Rattle.std.proofs.lemmas.Nat.{le-div}
use Rattle.std.proofs.Math.Nat.{suc-mul, div-eq_of_lt, mod-eq_of_lt, mul-le-mul_right, mul-div-le}
use Rattle.semantics.specs.Meaning.Places.{below}
use Rattle.semantics.specs.Loops.Chunk.{Chunk, sized, share}
use Rattle.schedule.proofs.Sized.{chunk_with, total, total-append, sized-some, sized-append, get-append_left, get-append_seam}

one_share : (n p m : ℕ) → share n p m + min m (n % p) ≡ n / p + min (suc m) (n % p)
one_share n p m = grind (arith, nat_tests)

shares : (n p m : ℕ) → total (map (share n p) (below m)) ≡ m * (n / p) + min m (n % p)
shares n p zero = omega arith
shares n p (suc m) =
    let r = shares n p m in
    let o = ap total (map-append (share n p) (below m) (m ∷ [])) in
    let q = total-append (map (share n p) (below m)) (share n p m ∷ []) in
    let here = one_share n p m in
    omega (arith, suc-mul m (n / p))

share_some : (n p m : ℕ) → m < p → m < n → 0 < share n p m
share_some n p m lt less = elim (cases_lt n p) [
  | inl few ↦ let q = mod-eq_of_lt few in grind (arith, nat_tests)
  | inr many ↦ let q : 1 ≤ n / p = le-div 1 n p (omega arith) (omega arith) in grind (arith, nat_tests)
]

share_none : (n p m : ℕ) → m < p → n ≤ m → share n p m ≡ 0
share_none n p m lt le = let few : n < p = omega arith in let q = div-eq_of_lt few in let r = mod-eq_of_lt few in grind (arith, nat_tests)

abbrev cut_below : ℕ → ℕ → ℕ → List Chunk
cut_below n p m = sized 0 (map (share n p) (below m))

cut_more : (n p m : ℕ) → cut_below n p (suc m) ≡ cut_below n p m ++ sized (m * (n / p) + min m (n % p)) (share n p m ∷ [])
cut_more n p m =
    let e : 0 + total (map (share n p) (below m)) ≡ m * (n / p) + min m (n % p) = omega (arith, shares n p m) in
    ap (sized 0) (map-append (share n p) (below m) (m ∷ []))
    ∙ sized-append 0 (map (share n p) (below m)) (share n p m ∷ [])
    ∙ ap (λ k. cut_below n p m ++ sized k (share n p m ∷ [])) e

cut_longer : (n p m : ℕ) → m < p → m < n → cut_below n p (suc m) ≡ cut_below n p m ++ chunk_with (m * (n / p) + min m (n % p)) (share n p m) ∷ []
cut_longer n p m lt less = cut_more n p m ∙ ap (λ l. cut_below n p m ++ l) (sized-some (m * (n / p) + min m (n % p)) (share n p m) [] (share_some n p m lt less))

cut_same : (n p m : ℕ) → m < p → n ≤ m → cut_below n p (suc m) ≡ cut_below n p m
cut_same n p m lt le =
    cut_more n p m
    ∙ ap (λ s. cut_below n p m ++ sized (m * (n / p) + min m (n % p)) (s ∷ [])) (share_none n p m lt le)
    ∙ append-nil (cut_below n p m)

pub length_shares : (n p m : ℕ) → m ≤ p → length (cut_below n p m) ≡ min m n
length_shares n p zero le = omega arith
length_shares n p (suc m) le = elim (cases_lt m n) [
  | inl less ↦ let r = length_shares n p m (omega arith) in let e = ap length (cut_longer n p m (omega arith) less) in
      let q = length-append (cut_below n p m) (chunk_with (m * (n / p) + min m (n % p)) (share n p m) ∷ []) in omega arith
  | inr past ↦ let r = length_shares n p m (omega arith) in let e = ap length (cut_same n p m (omega arith) past) in omega arith
]

pub share_at : (n p m c : ℕ) → m ≤ p → c < min m n → slice_get (cut_below n p m) c ≡ Some (chunk_with (c * (n / p) + min c (n % p)) (share n p c))
share_at n p zero c le lt = absurd (omega arith)
share_at n p (suc m) c le lt = elim (cases_lt m n) [
  | inr past ↦ ap (λ l. slice_get l c) (cut_same n p m (omega arith) past) ∙ share_at n p m c (omega arith) (omega arith)
  | inl less ↦ ap (λ l. slice_get l c) (cut_longer n p m (omega arith) less) ∙ elim (cases_lt c m) [
    | inl before ↦
        let r = length_shares n p m (omega arith) in
        get-append_left (cut_below n p m) (chunk_with (m * (n / p) + min m (n % p)) (share n p m) ∷ []) c (omega arith) ∙ share_at n p m c (omega arith) (omega arith)
    | inr here ↦
        let r = length_shares n p m (omega arith) in
        let e : m ≡ c = omega arith in
        get-append_seam (cut_below n p m) (chunk_with (m * (n / p) + min m (n % p)) (share n p m)) [] c (omega arith)
        ∙ ap (λ k. Some (chunk_with (k * (n / p) + min k (n % p)) (share n p k))) e
  ]
]

-- where a share begins
pub share_start : (n p m : ℕ) → m ≤ p → m * (n / p) ≤ n
share_start n p m le = let a = mul-le-mul_right (n / p) le in let b = mul-div-le n p in omega arith
