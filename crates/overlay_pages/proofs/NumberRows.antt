-- Numbers in rows are what was written.
use Rattle.std.proofs.Common.{ℕ, zero, suc, ◌≡◌, ◌≢◌, ◌+◌, ◌-◌, ◌*◌, ◌/◌, ◌%◌, ◌<◌, ◌≤◌, ◌⊎◌, inl, inr, List, [], ◌∷◌, ◌++◌, map, length, get_or, replicate, refl, sym, ap, ◌∙◌, subst, arith}
use Rattle.std.specs.Prelude.{slice_index, slice_set}
use Rattle.std.specs.List.{range_with_len}
use Rattle.std.proofs.lemmas.List.{append-nil, length-set, length-append, length-replicate, get_or-set_same, get_or-set_other, get_or_past, ext_get_or}
use Rattle.std.proofs.lemmas.List.FromFn.{length-map-range_with_len}
use Rattle.overlay_pages.specs.NumberRows.{number_in, numbers_in}
use Rattle.overlay_pages.proofs.Tables.{same_or_not, at_range, zeros_hold}

-- rows in which nothing is written
abbrev bare : ℕ → List (List ℕ)
bare m = replicate m []

bare_row : (m q : ℕ) → get_or (bare m) q [] ≡ []
bare_row zero q = refl
bare_row (suc m) zero = refl
bare_row (suc m) (suc q) = bare_row m q

pub all_zeros : (rows : List (List ℕ)) (m count : ℕ) → rows ≡ bare m → numbers_in rows count ≡ replicate count 0
all_zeros rows m count e = ap (λ (r : List (List ℕ)). numbers_in r count) e ∙ go 0 count
  where
    go : (a n : ℕ) → map (number_in (bare m)) (range_with_len a n) ≡ replicate n 0
    go a zero = refl
    go a (suc n) = λ i. ap (λ (l : List ℕ). slice_index l (a % 8192)) (bare_row m (a / 8192)) i ∷ go (a + 1) n i

pub length_numbers : (rows : List (List ℕ)) (count : ℕ) → length (numbers_in rows count) ≡ count
length_numbers rows count = length-map-range_with_len (number_in rows) 0 count

pub read_in : (rows : List (List ℕ)) (count at : ℕ) → at < count → number_in rows at ≡ slice_index (numbers_in rows count) at
read_in rows count at lt = sym (at_range (number_in rows) count at 0 lt)

pub read_past : (rows : List (List ℕ)) (count at : ℕ) → count ≤ at → 0 ≡ slice_index (numbers_in rows count) at
read_past rows count at le = let l = length_numbers rows count in sym (get_or_past (numbers_in rows count) at 0 (omega arith))

-- zeros behind a row change no number of it
filled : (row : List ℕ) (m j : ℕ) → slice_index (row ++ replicate m 0) j ≡ slice_index row j
filled [] m j = zeros_hold m (replicate m 0) refl j
filled (n ∷ row) m zero = refl
filled (n ∷ row) m (suc j) = filled row m j

pub long_enough : (row : List ℕ) (k : ℕ) → k < length row → row ≡ row ++ replicate (k + 1 - length row) 0
long_enough row k lt =
    let none : k + 1 - length row ≡ 0 = omega arith in
    sym (ap (λ m. row ++ replicate m 0) none ∙ append-nil row)

-- a row in which a number is written
abbrev pub row_with : List ℕ → ℕ → ℕ → List ℕ
row_with row k n = slice_set (row ++ replicate (k + 1 - length row) 0) k n

row_here : (row : List ℕ) (k n : ℕ) → slice_index (row_with row k n) k ≡ n
row_here row k n =
    let z : ℕ = 0 in
    let more = k + 1 - length row in
    let a = length-append row (replicate more z) in
    let r : length (replicate more z) ≡ more = length-replicate more z in
    get_or-set_same (row ++ replicate (k + 1 - length row) 0) k n 0 (omega arith)

row_other : (row : List ℕ) (k n j : ℕ) → j ≢ k → slice_index (row_with row k n) j ≡ slice_index row j
row_other row k n j ne = get_or-set_other (row ++ replicate (k + 1 - length row) 0) k j n 0 ne ∙ filled row (k + 1 - length row) j

module _ (rows : List (List ℕ)) (count at n : ℕ) (lt : at < count) (room : count ≤ 8192 * length rows) where
  abbrev new : List ℕ
  new = row_with (get_or rows (at / 8192) []) (at % 8192) n

  abbrev then : List (List ℕ)
  then = slice_set rows (at / 8192) new

  there : at / 8192 < length rows
  there = omega arith

  same : get_or then (at / 8192) [] ≡ new
  same = get_or-set_same rows (at / 8192) new [] there

  here : number_in then at ≡ n
  here = ap (λ (r : List ℕ). slice_index r (at % 8192)) same ∙ row_here (get_or rows (at / 8192) []) (at % 8192) n

  other : (i : ℕ) → i ≢ at → number_in then i ≡ number_in rows i
  other i ne = go (same_or_not (i / 8192) (at / 8192))
    where
      go : (i / 8192 ≡ at / 8192) ⊎ (i / 8192 ≢ at / 8192) → number_in then i ≡ number_in rows i
      go (inl e) =
          let apart : i % 8192 ≢ at % 8192 = λ f. ne (let z : i ≡ at = omega arith in z) in
          ap (λ (q : ℕ). slice_index (get_or then q []) (i % 8192)) e
          ∙ ap (λ (r : List ℕ). slice_index r (i % 8192)) same
          ∙ row_other (get_or rows (at / 8192) []) (at % 8192) n (i % 8192) apart
          ∙ ap (λ (q : ℕ). slice_index (get_or rows q []) (i % 8192)) (sym e)
      go (inr far) = ap (λ (r : List ℕ). slice_index r (i % 8192)) (get_or-set_other rows (at / 8192) (i / 8192) new [] far)

  pub set_in : numbers_in (slice_set rows (at / 8192) (row_with (get_or rows (at / 8192) []) (at % 8192) n)) count ≡ slice_set (numbers_in rows count) at n
  set_in =
      ext_get_or 0 (numbers_in then count) (slice_set (numbers_in rows count) at n)
      (length_numbers then count ∙ sym (length-set (numbers_in rows count) at n ∙ length_numbers rows count))
      (λ r below. let len = length_numbers then count in at_range (number_in then) count r 0 (omega arith) ∙ go r (omega arith) (same_or_not r at))
    where
      go : (r : ℕ) → r < count → (r ≡ at) ⊎ (r ≢ at) → number_in then r ≡ get_or (slice_set (numbers_in rows count) at n) r 0
      go r below (inl e) =
          let len = length_numbers rows count in
          subst (λ (i : ℕ). number_in then i ≡ get_or (slice_set (numbers_in rows count) at n) i 0) (sym e)
          (here ∙ sym (get_or-set_same (numbers_in rows count) at n 0 (omega arith)))
      go r below (inr ne) =
          other r ne
          ∙ sym (at_range (number_in rows) count r 0 below)
          ∙ sym (get_or-set_other (numbers_in rows count) at r n 0 ne)
