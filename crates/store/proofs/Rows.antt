-- Rows that are made where they stand.
use Rattle.std.proofs.Common.{◌≡◌, ℕ, zero, suc, ◌+◌, ◌-◌, ◌<◌, ◌≤◌, List, [], ◌∷◌, ◌++◌, length, take, drop, refl, sym, ap, ◌∙◌, arith}
use Rattle.std.specs.Prelude.{slice_index}
use Rattle.std.proofs.lemmas.List.{append_assoc, length-append, length-drop, length-take, take-append-drop}
use Rattle.std.proofs.lemmas.Slice.{take-put_mid, drop-put_mid}
use borrow.Rule.Slice.PartMut.{put_mid}
use Rattle.store.specs.Kept.{overlaid}
use Rattle.store.specs.Filling.{row_of}

take_next : (xs : List ℕ) (k : ℕ) → k < length xs → take (suc k) xs ≡ take k xs ++ slice_index xs k ∷ []
take_next [] k lt = absurd (omega arith)
take_next (x ∷ xs) zero lt = refl
take_next (x ∷ xs) (suc k) lt = ap (λ l. x ∷ l) (take_next xs k (omega arith))

taken_all : (xs : List ℕ) → take (length xs) xs ≡ xs
taken_all [] = refl
taken_all (x ∷ xs) = ap (λ l. x ∷ l) (taken_all xs)

-- the first numbers of a row that has them
first_of : (number : ℕ → ℕ) (row : List ℕ) (n : ℕ) → n ≤ length row → ((k : ℕ) → k < n → slice_index row k ≡ number k) → take n row ≡ row_of number n
first_of number row zero le each = refl
first_of number row (suc n) le each =
    take_next row n (omega arith)
    ∙ ap (λ l. l ++ slice_index row n ∷ []) (first_of number row n (omega arith) (λ k lt. each k (omega arith)))
    ∙ ap (λ v. row_of number n ++ v ∷ []) (each n (omega arith))

pub row_is : (number : ℕ → ℕ) (row : List ℕ) (n : ℕ) → length row ≡ n → ((k : ℕ) → k < n → slice_index row k ≡ number k) → row ≡ row_of number n
row_is number row n long each = sym (taken_all row) ∙ ap (λ m. take m row) long ∙ first_of number row n (omega (arith, long)) each

pub length_row : (number : ℕ → ℕ) (n : ℕ) → length (row_of number n) ≡ n
length_row number zero = refl
length_row number (suc n) = length-append (row_of number n) (number n ∷ []) ∙ (let l = length_row number n in omega (arith, l))

-- a part that is there is as long as it should be
pub length_mid : (first count : ℕ) (cells : List ℕ) → first + count ≤ length cells → length (take (first + count - first) (drop first cells)) ≡ count
length_mid first count cells le = length-take (first + count - first) (drop first cells) ∙ (let d = length-drop first cells in omega (arith, d, le))

-- a part that is written in place
pub put_in : (first count : ℕ) (cells row : List ℕ) → first + count ≤ length cells → length row ≡ count → put_mid first (first + count - first) cells row ≡ overlaid cells first row
put_in first count cells row le long =
    sym (take-append-drop (first + length row) all)
    ∙ ap (λ l. l ++ drop (first + length row) all) (take-put_mid first (first + count - first) cells row (first + length row) refl (omega arith))
    ∙ ap (λ l. (take first cells ++ row) ++ l) (drop-put_mid first (first + count - first) cells row (first + length row) (omega (arith, long)) (omega arith) (long ∙ (let e : count ≡ first + count - first = omega arith in e)))
    ∙ append_assoc (take first cells) row (drop (first + length row) cells)
  where
    all : List ℕ
    all = put_mid first (first + count - first) cells row
