-- Chunks of one size, the last of which may be shorter.
use Rattle.std.specs.Prelude.{ℕ, zero, suc, ◌≡◌, ◌+◌, ◌-◌, ◌*◌, ◌/◌, ◌%◌, ◌<◌, ◌≤◌, min, List, ◌∷◌, length, Some, slice_get}
use Rattle.std.proofs.Common.{sym, ap, ◌∙◌, arith, inl, inr}
use Rattle.std.proofs.lemmas.Bool.{cases_lt}
use Rattle.std.proofs.lemmas.Grind.{div_ceil_times}
use Rattle.std.proofs.Math.Path.{ap₂}
use Rattle.std.proofs.Math.Nat.{add-div_right, div-eq_of_lt, div-eq_of_lt-le, le-div_iff_mul-le}
use Rattle.semantics.specs.Loops.Chunk.{Chunk, sized, sizes_by, ceiling}
use Rattle.schedule.proofs.Sized.{chunk_with, sized-some}

abbrev pub blocks : ℕ → ℕ → ℕ → ℕ → List Chunk
blocks k fuel left first = sized first (sizes_by (λ left. k) fuel left)

blocks-step : (k fuel left first : ℕ) → 0 < k → blocks k (suc fuel) (suc left) first ≡ chunk_with first (min (suc left) k) ∷ blocks k fuel (suc left - min (suc left) k) (first + min (suc left) k)
blocks-step k fuel left first some = sized-some first (min (suc left) k) (sizes_by (λ left. k) fuel (suc left - min (suc left) k)) (omega arith)

ceiling_none : (k : ℕ) → 0 < k → ceiling 0 k ≡ 0
ceiling_none k some = div-eq_of_lt (omega arith)

ceiling_few : (n k : ℕ) → 0 < n → n ≤ k → ceiling n k ≡ 1
ceiling_few n k some le = div-eq_of_lt-le k (omega arith) (omega arith)

ceiling_more : (n k : ℕ) → 0 < k → k < n → ceiling n k ≡ suc (ceiling (n - k) k)
ceiling_more n k some lt =
    let e : n + k - 1 ≡ ((n - k) + k - 1) + k = omega arith in
    let r = add-div_right ((n - k) + k - 1) some in
    ap (λ m. m / k) e ∙ omega arith

ceiling-step : (n k : ℕ) → 0 < k → 0 < n → ceiling n k ≡ suc (ceiling (n - min n k) k)
ceiling-step n k some more = elim (cases_lt k n) [
  | inl lt ↦ let e : n - min n k ≡ n - k = omega arith in ceiling_more n k some lt ∙ ap (λ m. suc (ceiling m k)) (sym e)
  | inr le ↦ let e : n - min n k ≡ 0 = omega arith in ceiling_few n k more le ∙ ap suc (sym (ap (λ m. ceiling m k) e ∙ ceiling_none k some))
]

pub ceiling-div_ceil : (n k : ℕ) → 0 < k → n / k + min 1 (n % k) ≡ ceiling n k
ceiling-div_ceil n k some = let h = div_ceil_times n k some in sym (div-eq_of_lt-le k (omega (arith, h.0, h.1)) (omega (arith, h.0, h.1)))

pub length_blocks : (k fuel left first : ℕ) → 0 < k → left ≤ fuel → length (blocks k fuel left first) ≡ ceiling left k
length_blocks k zero zero first some le = sym (ceiling_none k some)
length_blocks k zero (suc left) first some le = absurd (omega arith)
length_blocks k (suc fuel) zero first some le = sym (ceiling_none k some)
length_blocks k (suc fuel) (suc left) first some le =
    ap length (blocks-step k fuel left first some)
    ∙ ap suc (length_blocks k fuel (suc left - min (suc left) k) (first + min (suc left) k) some (omega arith))
    ∙ sym (ceiling-step (suc left) k some (omega arith))

pub blocks_at : (k fuel left first c : ℕ) → 0 < k → left ≤ fuel → c * k < left → slice_get (blocks k fuel left first) c ≡ Some (chunk_with (first + c * k) (min k (left - c * k)))
blocks_at k zero left first c some le lt = absurd (omega arith)
blocks_at k (suc fuel) zero first c some le lt = absurd (omega arith)
blocks_at k (suc fuel) (suc left) first zero some le lt =
    ap (λ l. slice_get l 0) (blocks-step k fuel left first some) ∙ ap Some (ap₂ chunk_with (omega arith) (omega arith))
blocks_at k (suc fuel) (suc left) first (suc c) some le lt =
    let m : min (suc left) k ≡ k = omega arith in
    ap (λ l. slice_get l (suc c)) (blocks-step k fuel left first some)
    ∙ blocks_at k fuel (suc left - min (suc left) k) (first + min (suc left) k) c some (omega arith) (omega arith)
    ∙ ap Some (ap₂ chunk_with (omega arith) (omega arith))

pub within : (n k c : ℕ) → 0 < k → c < ceiling n k → c * k < n
within n k c some lt = let r : suc c * k ≤ n + k - 1 = (le-div_iff_mul-le some).0 lt in omega arith
