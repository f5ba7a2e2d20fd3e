-- Chunks of given sizes.
use Rattle.std.specs.Prelude.{ℕ, zero, suc, ◌≡◌, ◌+◌, ◌<◌, List, [], ◌∷◌, ◌++◌, length, Some, slice_get}
use Rattle.std.proofs.Common.{refl, ap, ◌∙◌, arith}
use Rattle.semantics.specs.Loops.Chunk.{Chunk, sized}

abbrev pub chunk_with : ℕ → ℕ → Chunk
chunk_with first count = record { first = first; count = count }

abbrev pub total : List ℕ → ℕ
total [] = 0
total (n ∷ ns) = n + total ns

pub total-append : (xs ys : List ℕ) → total (xs ++ ys) ≡ total xs + total ys
total-append [] ys = omega arith
total-append (x ∷ xs) ys = let r = total-append xs ys in omega arith

-- a size that is not 0 makes a chunk
pub sized-some : (first m : ℕ) (ms : List ℕ) → 0 < m → sized first (m ∷ ms) ≡ chunk_with first m ∷ sized (first + m) ms
sized-some first zero ms lt = absurd (omega arith)
sized-some first (suc m) ms lt = refl

pub sized-append : (first : ℕ) (xs ys : List ℕ) → sized first (xs ++ ys) ≡ sized first xs ++ sized (first + total xs) ys
sized-append first [] ys = let e : first ≡ first + 0 = omega arith in ap (λ n. sized n ys) e
sized-append first (zero ∷ xs) ys =
    let e : first + total xs ≡ first + (0 + total xs) = omega arith in
    sized-append first xs ys ∙ ap (λ n. sized first xs ++ sized n ys) e
sized-append first (suc n ∷ xs) ys =
    let e : (first + suc n) + total xs ≡ first + (suc n + total xs) = omega arith in
    ap (λ l. chunk_with first (suc n) ∷ l) (sized-append (first + suc n) xs ys ∙ ap (λ m. sized (first + suc n) xs ++ sized m ys) e)

pub get-append_left : {A : Type 0} (xs ys : List A) (i : ℕ) → i < length xs → slice_get (xs ++ ys) i ≡ slice_get xs i
get-append_left [] ys i lt = absurd (omega arith)
get-append_left (x ∷ xs) ys zero lt = refl
get-append_left (x ∷ xs) ys (suc i) lt = get-append_left xs ys i (omega arith)

pub get-append_seam : {A : Type 0} (xs : List A) (y : A) (ys : List A) (i : ℕ) → i ≡ length xs → slice_get (xs ++ y ∷ ys) i ≡ Some y
get-append_seam [] y ys zero e = refl
get-append_seam [] y ys (suc i) e = absurd (omega arith)
get-append_seam (x ∷ xs) y ys zero e = absurd (omega arith)
get-append_seam (x ∷ xs) y ys (suc i) e = get-append_seam xs y ys i (omega arith)
