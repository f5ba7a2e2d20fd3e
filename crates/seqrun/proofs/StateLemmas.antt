-- How a write of an element is seen.
use Rattle.std.proofs.Common.{◌≡◌, ℕ, zero, suc, ◌+◌, ◌*◌, ◌<◌, ◌≤◌, Bool, true, false, cond, List, [], ◌∷◌, ◌++◌, length, drop, take, Option, Some, None, refl, sym, ap, ◌∙◌, arith, ⊎_elim}
use Rattle.std.specs.Prelude.{nat_lt, ◌==◌, ◌&&◌, slice_get, slice_set, option_and_then}
use Rattle.std.proofs.Math.Path.{fun_ext}
use Rattle.std.proofs.lemmas.Bool.{eqb-true, cases_lt, ltb-true}
use Rattle.std.proofs.lemmas.Option.{slice_get_within}
use Rattle.std.proofs.Math.Nat.{mul-le-mul_right, suc-mul}
use Rattle.std.specs.Cmp.Lexicographic.{same_text, other_text}
use Rattle.semantics.specs.Meaning.State.{same_indexes, renewed, cells_after}
use Rattle.store.specs.Kept.{Kept, cell_of, state_of, overlaid, rewritten, rewritten_at}
use Rattle.seqrun_value.specs.Standing.{cell_in, offset_from}
use Rattle.seqrun_value.proofs.FrameLemmas.{slice_get_set_same, slice_get_set_other, set_at}
use Rattle.seqrun_value.proofs.ValueLemmas.{guard, cell_is}

no_value : {X : Type 0} (xs : List X) (i : ℕ) → i < length xs → slice_get xs i ≡ None → ⊥
no_value [] i lt e = omega arith
no_value (x ∷ xs) zero lt e = cc
no_value (x ∷ xs) (suc i) lt e = no_value xs i (omega arith) e

-- two rows of places don't meet
rows_apart : (a b n i j : ℕ) → i < n → a * n + i ≡ b * n + j → b ≤ a
rows_apart a b n i j lt e =
    ⊎_elim
    (λ (more : a < b). absurd (omega (arith, mul-le-mul_right n more, suc-mul a n)))
    (λ (le : b ≤ a). le)
    (cases_lt a b)

-- a place is that of one list of indexes
pub one_place : (ns is js : List ℕ) (a b k : ℕ) → offset_from a ns is ≡ Some k → offset_from b ns js ≡ Some k → (a ≡ b) × (is ≡ js)
one_place [] [] [] a b k e f = (grind arith, refl)
one_place [] (i ∷ is) js a b k e f = cc
one_place [] [] (j ∷ js) a b k e f = cc
one_place (n ∷ ns) [] js a b k e f = cc
one_place (n ∷ ns) (i ∷ is) [] a b k e f = cc
one_place (n ∷ ns) (i ∷ is) (j ∷ js) a b k e f =
    let g = guard (nat_lt i n) (offset_from (a * n + i) ns is) k e in
    let h = guard (nat_lt j n) (offset_from (b * n + j) ns js) k f in
    let r = one_place ns is js (a * n + i) (b * n + j) k g.1 h.1 in
    let below : i < n = ltb-true i n g.0 in
    let below' : j < n = ltb-true j n h.0 in
    let ab : a ≡ b = omega (arith, rows_apart a b n i j below r.0, rows_apart b a n j i below' (sym r.0)) in
    let same : a * n ≡ b * n = ap (λ x. x * n) ab in
    let ij : i ≡ j = omega arith in
    (ab, cc)

-- one value written over others
overlaid_one : (old : List ℕ) (at n : ℕ) → at < length old → overlaid old at (n ∷ []) ≡ slice_set old at n
overlaid_one [] at n lt = absurd (omega arith)
overlaid_one (x ∷ xs) zero n lt = refl
overlaid_one (x ∷ xs) (suc at) n lt =
    let behind : suc at + 1 ≡ suc (at + 1) = omega arith in
    ap (λ m. x ∷ (take at xs ++ (n ∷ drop m (x ∷ xs)))) behind ∙ ap (λ l. x ∷ l) (overlaid_one xs at n (omega arith))

-- a variable that is there changes by itself
rewritten_set : (ks : List Kept) (x at : ℕ) (vs : List ℕ) (a : Kept) → slice_get ks x ≡ Some a → rewritten_at ks x at vs ≡ slice_set ks x (rewritten a at vs)
rewritten_set [] x at vs a e = refl
rewritten_set (k ∷ ks) zero at vs a e = ap (λ (o : Option Kept). written o) e
  where
    written : Option Kept → List Kept
    written None = ks
    written (Some j) = rewritten j at vs ∷ ks
rewritten_set (k ∷ ks) (suc x) at vs a e = ap (λ l. k ∷ l) (rewritten_set ks x at vs a e)

module _ (a : Kept) (is : List ℕ) (at n : ℕ) (place : offset_from 0 a.lengths is ≡ Some at) (within : at < length a.values) where
  abbrev b : Kept
  b = rewritten a at (n ∷ [])

  values : b.values ≡ slice_set a.values at n
  values = overlaid_one a.values at n within

  here : (o : Option ℕ) → slice_get a.values at ≡ o → Some n ≡ renewed o n
  here (Some v) e = refl
  here None e = absurd (no_value a.values at within e)

  apart : (js : List ℕ) → (js ≡ is → ⊥) → (o : Option ℕ) → offset_from 0 a.lengths js ≡ o → option_and_then (λ k. slice_get b.values k) o ≡ option_and_then (λ k. slice_get a.values k) o
  apart js ne None e = refl
  apart js ne (Some k) e =
      ap (λ vs. slice_get vs k) values ∙ slice_get_set_other a.values at k n (λ same. ne (one_place a.lengths js is 0 0 at (e ∙ ap Some same) place).1)

  cell_set : (js : List ℕ) (t : Bool) → same_indexes js is ≡ t → cell_in b (Some js) ≡ cond t (renewed (cell_in a (Some js)) n) (cell_in a (Some js))
  cell_set js true e =
      let same : js ≡ is = same_text js is (sym e) in
      let p : offset_from 0 a.lengths js ≡ Some at = ap (offset_from 0 a.lengths) same ∙ place in
      ap (λ o. option_and_then (λ k. slice_get b.values k) o) p
      ∙ ap (λ vs. slice_get vs at) values
      ∙ slice_get_set_same a.values at n within
      ∙ here (slice_get a.values at) refl
      ∙ ap (λ o. renewed (option_and_then (λ k. slice_get a.values k) o) n) (sym p)
  cell_set js false e = apart js (other_text js is (sym e)) (offset_from 0 a.lengths js) refl

  cell_changed : (js : List ℕ) → cell_of (Some b) js ≡ cond (same_indexes js is) (renewed (cell_of (Some a) js) n) (cell_of (Some a) js)
  cell_changed js =
      cell_is b js
      ∙ cell_set js (same_indexes js is) refl
      ∙ ap (λ o. cond (same_indexes js is) (renewed o n) o) (sym (cell_is a js))

  -- an element that is written is the one that changes
  pub cells_set : (ks : List Kept) (x : ℕ) → slice_get ks x ≡ Some a → (state_of (rewritten_at ks x at (n ∷ []))).cells ≡ cells_after (state_of ks).cells x is n
  cells_set ks x e = fun_ext (λ y. fun_ext (λ js. ap (λ (l : List Kept). cell_of (slice_get l y) js) (rewritten_set ks x at (n ∷ []) a e) ∙ ap (λ (o : Option Kept). cell_of o js) (set_at ks x b (slice_get_within ks x a e) y) ∙ each y js (y == x) refl))
    where
      each : (y : ℕ) (js : List ℕ) (t : Bool) → (y == x) ≡ t → cell_of (cond t (Some b) (slice_get ks y)) js ≡ cond (t && same_indexes js is) (renewed (cell_of (slice_get ks y) js) n) (cell_of (slice_get ks y) js)
      each y js false e' = refl
      each y js true e' =
          let o : slice_get ks y ≡ Some a = ap (slice_get ks) (eqb-true y x e') ∙ e in
          cell_changed js ∙ ap (λ (o : Option Kept). cond (same_indexes js is) (renewed (cell_of o js) n) (cell_of o js)) (sym o)
