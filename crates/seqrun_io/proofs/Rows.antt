-- The elements of an array in C's order, and where they stand.
use Rattle.std.specs.Prelude.{ℕ, zero, suc, Bool, true, false, ◌≡◌, ◌+◌, ◌*◌, ◌<◌, ◌≤◌, ◌&&◌, if◌then◌else◌, List, [], ◌∷◌, ◌++◌, length, map, flat_map, Option, Some, None, slice_get}
use Rattle.std.proofs.Common.{refl, sym, ap, ◌∙◌, arith, append_assoc, append-nil, add_assoc}
use Rattle.std.proofs.Math.Path.{fun_ext}
use Rattle.std.proofs.lemmas.Bool.{lt-ltb}
use Rattle.std.proofs.lemmas.Grind.{flat_map-append}
use Rattle.std.proofs.lemmas.List.Folds.{flat_map-map}
use Rattle.semantics.specs.Meaning.Places.{below, all_indexes, within, size, place, place_from}
use Rattle.semantics.specs.Meaning.Output.{cell_text}
use Rattle.store.specs.Kept.{Kept, cell_of}
use Rattle.seqrun_io.specs.Lines.{value_text}

-- an element's text where it is within the lengths
abbrev pub text_at : (ℕ → List ℕ) → List ℕ → ℕ → List ℕ → List ℕ
text_at h ns at is = if within ns is then h (place_from at ns is) else []

-- numbers from a first on
abbrev pub texts_from : (ℕ → List ℕ) → ℕ → ℕ → List ℕ
texts_from h first n = flat_map (λ j. h (first + j)) (below n)

texts_more : (h : ℕ → List ℕ) (first m n : ℕ) → texts_from h first m ++ texts_from h (first + m) n ≡ texts_from h first (m + n)
texts_more h first m zero = append-nil (texts_from h first m) ∙ ap (texts_from h first) (let e : m ≡ m + 0 = omega arith in e)
texts_more h first m (suc n) =
    ap (λ l. texts_from h first m ++ l) (flat_map-append (λ j. h (first + m + j)) (below n) (n ∷ []))
    ∙ sym (append_assoc (texts_from h first m) (texts_from h (first + m) n) (h (first + m + n) ++ []))
    ∙ ap (λ l. l ++ (h (first + m + n) ++ [])) (texts_more h first m n)
    ∙ ap (λ k. texts_from h first (m + n) ++ (h k ++ [])) (add_assoc first m n)
    ∙ sym (flat_map-append (λ j. h (first + j)) (below (m + n)) ((m + n) ∷ []))
    ∙ ap (texts_from h first) (let e : suc (m + n) ≡ m + suc n = omega arith in e)

module _ (h : ℕ → List ℕ) (ns : List ℕ) (deeper : (at : ℕ) → flat_map (text_at h ns at) (all_indexes ns) ≡ texts_from h (at * size ns) (size ns)) (at n : ℕ) where
  row : (i : ℕ) → i < n → flat_map (text_at h (n ∷ ns) at) (map (λ is. i ∷ is) (all_indexes ns)) ≡ texts_from h ((at * n + i) * size ns) (size ns)
  row i lt =
      flat_map-map (text_at h (n ∷ ns) at) (λ is. i ∷ is) (all_indexes ns)
      ∙ ap (λ b. flat_map (λ is. if b && within ns is then h (place_from (at * n + i) ns is) else []) (all_indexes ns)) (lt-ltb i n lt)
      ∙ deeper (at * n + i)

  rows : (m : ℕ) → m ≤ n → flat_map (text_at h (n ∷ ns) at) (flat_map (λ i. map (λ is. i ∷ is) (all_indexes ns)) (below m)) ≡ texts_from h (at * (n * size ns)) (m * size ns)
  rows zero le = ap (texts_from h (at * (n * size ns))) (let e : 0 ≡ 0 * size ns = omega arith in e)
  rows (suc m) le =
      ap (flat_map (text_at h (n ∷ ns) at)) (flat_map-append (λ i. map (λ is. i ∷ is) (all_indexes ns)) (below m) (m ∷ []))
      ∙ flat_map-append (text_at h (n ∷ ns) at) (flat_map (λ i. map (λ is. i ∷ is) (all_indexes ns)) (below m)) (map (λ is. m ∷ is) (all_indexes ns) ++ [])
      ∙ ap (λ l. l ++ flat_map (text_at h (n ∷ ns) at) (map (λ is. m ∷ is) (all_indexes ns) ++ [])) (rows m (omega arith))
      ∙ ap (λ l. texts_from h (at * (n * size ns)) (m * size ns) ++ flat_map (text_at h (n ∷ ns) at) l) (append-nil (map (λ is. m ∷ is) (all_indexes ns)))
      ∙ ap (λ l. texts_from h (at * (n * size ns)) (m * size ns) ++ l) (row m (omega arith))
      ∙ ap (λ k. texts_from h (at * (n * size ns)) (m * size ns) ++ texts_from h k (size ns)) (let e : (at * n + m) * size ns ≡ at * (n * size ns) + m * size ns = omega arith in e)
      ∙ texts_more h (at * (n * size ns)) (m * size ns) (size ns)
      ∙ ap (texts_from h (at * (n * size ns))) (let e : m * size ns + size ns ≡ suc m * size ns = omega arith in e)

-- the texts of all elements come in order of their places
pub in_places : (h : ℕ → List ℕ) (ns : List ℕ) (at : ℕ) → flat_map (text_at h ns at) (all_indexes ns) ≡ texts_from h (at * size ns) (size ns)
in_places h [] at = ap (λ k. h k ++ []) (let e : at ≡ at * 1 + 0 = omega arith in e)
in_places h (n ∷ ns) at = rows h ns (in_places h ns) at n n (omega arith)

texts_of : (all vs : List ℕ) (first : ℕ) → ((j : ℕ) → slice_get all (first + j) ≡ slice_get vs j) → texts_from (λ j. cell_text (slice_get all j)) first (length vs) ≡ flat_map value_text vs
texts_of all [] first same = refl
texts_of all (v ∷ vs) first same =
    ap (texts_from (λ j. cell_text (slice_get all j)) first) (let e : length (v ∷ vs) ≡ 1 + length vs = omega arith in e)
    ∙ sym (texts_more (λ j. cell_text (slice_get all j)) first 1 (length vs))
    ∙ ap (λ l. l ++ texts_from (λ j. cell_text (slice_get all j)) (first + 1) (length vs)) (append-nil (cell_text (slice_get all (first + 0))) ∙ ap cell_text (same 0))
    ∙ ap (λ l. value_text v ++ l) (texts_of all vs (first + 1) (λ j. ap (slice_get all) (let e : first + 1 + j ≡ first + suc j = omega arith in e) ∙ same (suc j)))

-- the elements of a variable that is kept, in C's order
pub kept_text : (k : Kept) → length k.values ≡ size k.lengths → flat_map (λ is. cell_text (cell_of (Some k) is)) (all_indexes k.lengths) ≡ flat_map value_text k.values
kept_text k e =
    ap (λ f. flat_map f (all_indexes k.lengths)) (fun_ext (λ is. pull (within k.lengths is) (slice_get k.values (place k.lengths is))))
    ∙ in_places (λ j. cell_text (slice_get k.values j)) k.lengths 0
    ∙ ap (λ j. texts_from (λ j. cell_text (slice_get k.values j)) j (size k.lengths)) (let e : 0 * size k.lengths ≡ 0 = omega arith in e)
    ∙ ap (texts_from (λ j. cell_text (slice_get k.values j)) 0) (sym e)
    ∙ texts_of k.values k.values 0 (λ j. ap (slice_get k.values) (let e : 0 + j ≡ j = omega arith in e))
  where
    pull : (b : Bool) (o : Option ℕ) → cell_text (if b then o else None) ≡ (if b then cell_text o else [])
    pull true o = refl
    pull false o = refl
