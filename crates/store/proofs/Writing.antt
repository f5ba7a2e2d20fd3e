-- Values written one behind another into a store are writes to its state, one after another.
use Rattle.std.specs.Prelude.{ℕ, zero, suc, Bool, true, false, ◌≡◌, ◌≢◌, ◌+◌, ◌*◌, ◌<◌, ◌≤◌, ◌==◌, ◌&&◌, nat_lt, List, [], ◌∷◌, ◌++◌, length, take, drop, Option, Some, None, slice_get, slice_set, map}
use Rattle.std.proofs.Common.{refl, sym, ap, ◌∙◌, cond, arith}
use Rattle.std.proofs.Math.Seq.{take-suc-set}
use Rattle.std.proofs.lemmas.List.{take-append-drop, append_assoc, length-set, drop-set-lt}
use Rattle.std.proofs.lemmas.Bool.{eqb-true, eqb-false, lt-ltb}
use Rattle.semantics.specs.Meaning.State.{renewed, same_indexes}
use Rattle.store.specs.Kept.{Kept, cell_of, overlaid, rewritten, rewritten_at, HasRoom}

-- one more value written over others
pub overlaid_none : (old : List ℕ) (first : ℕ) → overlaid old first [] ≡ old
overlaid_none old first = ap (λ n. take first old ++ drop n old) (let e : first + 0 ≡ first = omega arith in e) ∙ take-append-drop first old

pub overlaid_more : (old : List ℕ) (first v : ℕ) (vs : List ℕ) → first < length old → overlaid old first (v ∷ vs) ≡ overlaid (slice_set old first v) (suc first) vs
overlaid_more old first v vs lt =
    sym
    (ap (λ l. l ++ (vs ++ drop (suc first + length vs) (slice_set old first v))) (take-suc-set old first v lt)
    ∙ append_assoc (take first old) (v ∷ []) (vs ++ drop (suc first + length vs) (slice_set old first v))
    ∙ ap (λ l. take first old ++ (v ∷ (vs ++ l))) (drop-set-lt (suc first + length vs) old first v (omega arith))
    ∙ ap (λ n. take first old ++ (v ∷ (vs ++ drop n old))) (let e : suc first + length vs ≡ first + suc (length vs) = omega arith in e))

pub overlaid_one : (old : List ℕ) (first v : ℕ) → first < length old → overlaid old first (v ∷ []) ≡ slice_set old first v
overlaid_one old first v lt = overlaid_more old first v [] lt ∙ overlaid_none (slice_set old first v) (suc first)

get_set_same : (xs : List ℕ) (i v : ℕ) → i < length xs → slice_get (slice_set xs i v) i ≡ Some v
get_set_same [] i v lt = absurd (omega arith)
get_set_same (x ∷ xs) zero v lt = refl
get_set_same (x ∷ xs) (suc i) v lt = get_set_same xs i v (omega arith)

get_set_other : (xs : List ℕ) (i j v : ℕ) → j ≢ i → slice_get (slice_set xs i v) j ≡ slice_get xs j
get_set_other [] i j v ne = refl
get_set_other (x ∷ xs) zero zero v ne = absurd (ne refl)
get_set_other (x ∷ xs) zero (suc j) v ne = refl
get_set_other (x ∷ xs) (suc i) zero v ne = refl
get_set_other (x ∷ xs) (suc i) (suc j) v ne = get_set_other xs i j v (λ e. ne (ap suc e))

get_inside : (xs : List ℕ) (i : ℕ) → i < length xs → (x : ℕ) × (slice_get xs i ≡ Some x)
get_inside [] i lt = absurd (omega arith)
get_inside (x ∷ xs) zero lt = (x, refl)
get_inside (x ∷ xs) (suc i) lt = get_inside xs i (omega arith)

-- what stands at a variable after values were written at one
at_same : (ks : List Kept) (x first : ℕ) (new : List ℕ) (k : Kept) → slice_get ks x ≡ Some k → slice_get (rewritten_at ks x first new) x ≡ Some (rewritten k first new)
at_same [] x first new k e = absurd cc
at_same (j ∷ ks) zero first new k e = ap (λ (o : Option Kept). option_of o) e
  where
    option_of : Option Kept → Option Kept
    option_of None = None
    option_of (Some i) = Some (rewritten i first new)
at_same (j ∷ ks) (suc x) first new k e = at_same ks x first new k e

at_other : (ks : List Kept) (x y first : ℕ) (new : List ℕ) → y ≢ x → slice_get (rewritten_at ks x first new) y ≡ slice_get ks y
at_other [] x y first new ne = refl
at_other (j ∷ ks) zero zero first new ne = absurd (ne refl)
at_other (j ∷ ks) zero (suc y) first new ne = refl
at_other (j ∷ ks) (suc x) zero first new ne = refl
at_other (j ∷ ks) (suc x) (suc y) first new ne = at_other ks x y first new (λ e. ne (ap suc e))

pub rewritten_none : (ks : List Kept) (x first : ℕ) → rewritten_at ks x first [] ≡ ks
rewritten_none [] x first = refl
rewritten_none (k ∷ ks) zero first = λ i. record { lengths = k.lengths; values = overlaid_none k.values first i } ∷ ks
rewritten_none (k ∷ ks) (suc x) first = ap (λ l. k ∷ l) (rewritten_none ks x first)

pub rewritten_more : (ks : List Kept) (x first v : ℕ) (vs : List ℕ) → HasRoom (slice_get ks x) (suc first) → rewritten_at ks x first (v ∷ vs) ≡ rewritten_at (rewritten_at ks x first (v ∷ [])) x (suc first) vs
rewritten_more [] x first v vs h = refl
rewritten_more (k ∷ ks) zero first v vs h =
    λ i. record { lengths = k.lengths; values = (overlaid_more k.values first v vs (omega arith) ∙ ap (λ l. overlaid l (suc first) vs) (sym (overlaid_one k.values first v (omega arith)))) i } ∷ ks
rewritten_more (k ∷ ks) (suc x) first v vs h = ap (λ l. k ∷ l) (rewritten_more ks x first v vs h)

-- an array of one dimension, at any indexes, after one of its values was written
one_cell : (n i v : ℕ) (values js : List ℕ) → length values ≡ n → i < n → cell_of (Some (record { lengths = n ∷ []; values = overlaid values i (v ∷ []) })) js ≡ cond (same_indexes js (i ∷ [])) (renewed (cell_of (Some (record { lengths = n ∷ []; values = values })) js) v) (cell_of (Some (record { lengths = n ∷ []; values = values })) js)
one_cell n i v values [] e lt = refl
one_cell n i v values (j ∷ []) e lt = go (nat_lt j n) refl (j == i) refl
  where
    plain : 0 * n + j ≡ j
    plain = omega arith

    is_new : (slice_get (overlaid values i (v ∷ [])) (0 * n + j)) ≡ slice_get (slice_set values i v) j
    is_new = ap (λ l. slice_get l (0 * n + j)) (overlaid_one values i v (omega arith)) ∙ ap (λ m. slice_get (slice_set values i v) m) plain

    renewed_there : (x : ℕ) → slice_get values j ≡ Some x → renewed (slice_get values (0 * n + j)) v ≡ Some v
    renewed_there x h = ap (λ m. renewed (slice_get values m) v) plain ∙ ap (λ o. renewed o v) h

    is_old : (slice_get values (0 * n + j)) ≡ slice_get values j
    is_old = ap (λ m. slice_get values m) plain

    go : (a : Bool) → nat_lt j n ≡ a → (b : Bool) → (j == i) ≡ b → cond (a && true) (slice_get (overlaid values i (v ∷ [])) (0 * n + j)) None ≡ cond (b && true) (renewed (cond (a && true) (slice_get values (0 * n + j)) None) v) (cond (a && true) (slice_get values (0 * n + j)) None)
    go true h true k =
        let same = eqb-true j i k in
        let there = get_inside values j (omega arith) in
        is_new ∙ ap (λ m. slice_get (slice_set values i v) m) same ∙ get_set_same values i v (omega arith) ∙ sym (renewed_there there.0 there.1)
    go true h false k = is_new ∙ get_set_other values i j v (eqb-false j i k) ∙ sym is_old
    go false h true k = let same = eqb-true j i k in let less = lt-ltb j n (omega arith) in absurd cc
    go false h false k = refl
one_cell n i v values (j ∷ k ∷ js) e lt = go (nat_lt j n) (j == i) (slice_get (overlaid values i (v ∷ [])) (0 * n + j)) (slice_get values (0 * n + j))
  where
    go : (a b : Bool) (x y : Option ℕ) → cond (a && false) x None ≡ cond (b && false) (renewed (cond (a && false) y None) v) (cond (a && false) y None)
    go true true x y = refl
    go true false x y = refl
    go false true x y = refl
    go false false x y = refl

-- what was written over keeps its length
pub length_overlaid : (old : List ℕ) (first : ℕ) (vs : List ℕ) → first + length vs ≤ length old → length (overlaid old first vs) ≡ length old
length_overlaid old first [] le = ap (λ (l : List ℕ). length l) (overlaid_none old first)
length_overlaid old first (v ∷ vs) le =
    ap (λ (l : List ℕ). length l) (overlaid_more old first v vs (omega arith))
    ∙ length_overlaid (slice_set old first v) (suc first) vs (omega (arith, length-set old first v))
    ∙ length-set old first v

-- and has the same shape
pub same_lengths : (ks : List Kept) (x first : ℕ) (vs : List ℕ) → map (λ (k : Kept). k.lengths) (rewritten_at ks x first vs) ≡ map (λ (k : Kept). k.lengths) ks
same_lengths [] x first vs = refl
same_lengths (k ∷ ks) zero first vs = refl
same_lengths (k ∷ ks) (suc x) first vs = ap (λ l. k.lengths ∷ l) (same_lengths ks x first vs)
