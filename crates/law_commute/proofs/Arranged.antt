-- Lists of numbers put one behind another, in any order.
use Rattle.std.specs.Prelude.{ℕ, zero, suc, Bool, true, false, ◌≡◌, ◌+◌, ◌<◌, ◌==◌, if◌then◌else◌, List, [], ◌∷◌, ◌++◌, length, map, flat_map, Option, Some, None, slice_get}
use Rattle.std.proofs.Common.{refl, sym, ap, ◌∙◌, arith}
use Rattle.std.proofs.lemmas.Bool.Decides.{nat_tests}
use Rattle.semantics.specs.Loops.Arrangement.{once, once_below, times, EachOnceBelow, with_found, picked}
use Rattle.semantics.proofs.TicketLaw.{times-append, once_below-more}
use Rattle.law_commute.proofs.Orders.{once_of_below}

-- all of them
abbrev pub flat : {A : Type 0} → List (List A) → List A
flat xss = flat_map (λ xs. xs) xss

-- the numbers that are there, added up
abbrev got : Option ℕ → ℕ
got None = 0
got (Some t) = t

abbrev total : List ℕ → ℕ
total [] = 0
total (t ∷ ts) = t + total ts

-- t for each k among some
abbrev share : ℕ → ℕ → List ℕ → ℕ
share k t [] = 0
share k t (c ∷ cs) = (if c == k then t else 0) + share k t cs

abbrev parts : ℕ → List ℕ → List ℕ → ℕ
parts k [] order = 0
parts k (t ∷ ts) order = share k t order + parts (suc k) ts order

abbrev single : ℕ → List ℕ → ℕ → ℕ
single k [] c = 0
single k (t ∷ ts) c = (if c == k then t else 0) + single (suc k) ts c

no_parts : (k : ℕ) (ts : List ℕ) → parts k ts [] ≡ 0
no_parts k [] = refl
no_parts k (t ∷ ts) = let r = no_parts (suc k) ts in omega arith

more_parts : (k : ℕ) (ts : List ℕ) (c : ℕ) (cs : List ℕ) → parts k ts (c ∷ cs) ≡ single k ts c + parts k ts cs
more_parts k [] c cs = omega arith
more_parts k (t ∷ ts) c cs = let r = more_parts (suc k) ts c cs in omega arith

single_low : (k : ℕ) (ts : List ℕ) (c : ℕ) → c < k → single k ts c ≡ 0
single_low k [] c lt = refl
single_low k (t ∷ ts) c lt =
    let r = single_low (suc k) ts c (omega arith) in
    let none : (if c == k then t else 0) ≡ 0 = grind (arith, nat_tests) in
    omega arith

single_is : (k : ℕ) (ts : List ℕ) (d : ℕ) → single k ts (k + d) ≡ got (slice_get ts d)
single_is k [] d = refl
single_is k (t ∷ ts) zero =
    let r = single_low (suc k) ts (k + 0) (omega arith) in
    let one : (if (k + 0) == k then t else 0) ≡ t = grind (arith, nat_tests) in
    omega arith
single_is k (t ∷ ts) (suc d) =
    let r = single_is (suc k) ts d in
    let same = ap (single (suc k) ts) (let e : k + suc d ≡ suc k + d = omega arith in e) in
    let none : (if (k + suc d) == k then t else 0) ≡ 0 = grind (arith, nat_tests) in
    omega arith

no_share : (k t : ℕ) (cs : List ℕ) → times k cs ≡ 0 → share k t cs ≡ 0
no_share k t [] h = refl
no_share k t (c ∷ cs) h =
    let r = no_share k t cs (omega arith) in
    let none : (if c == k then t else 0) ≡ 0 = grind (arith, nat_tests) in
    omega arith

one_share : (k t : ℕ) (cs : List ℕ) → times k cs ≡ 1 → share k t cs ≡ t
one_share k t [] h = absurd (omega (arith, h))
one_share k t (c ∷ cs) h = at (c == k) refl (λ e. one_share k t cs e)
  where
    at : (b : Bool) → (c == k) ≡ b → (times k cs ≡ 1 → share k t cs ≡ t) → share k t (c ∷ cs) ≡ t
    at true e rest =
        let one : once k c ≡ 1 = grind (arith, nat_tests) in
        let r = no_share k t cs (omega (arith, h)) in
        let all : (if c == k then t else 0) ≡ t = grind (arith, nat_tests) in
        omega arith
    at false e rest =
        let no : once k c ≡ 0 = grind (arith, nat_tests) in
        let r = rest (omega (arith, h)) in
        let none : (if c == k then t else 0) ≡ 0 = grind (arith, nat_tests) in
        omega arith

all_parts : (k : ℕ) (ts order : List ℕ) → ((i : ℕ) → i < length ts → times (k + i) order ≡ 1) → parts k ts order ≡ total ts
all_parts k [] order each = refl
all_parts k (t ∷ ts) order each =
    let here : times k order ≡ 1 = ap (λ z. times z order) (let e : k ≡ k + 0 = omega arith in e) ∙ each 0 (omega arith) in
    let one = one_share k t order here in
    let rest = all_parts (suc k) ts order (λ i lt. ap (λ z. times z order) (let e : suc k + i ≡ k + suc i = omega arith in e) ∙ each (suc i) (omega arith)) in
    omega arith

total_found : (o : Option ℕ) (ts : List ℕ) → total (with_found o ts) ≡ got o + total ts
total_found None ts = omega arith
total_found (Some t) ts = refl

total_picked : (ts order : List ℕ) → total (picked ts order) ≡ parts 0 ts order
total_picked ts [] = sym (no_parts 0 ts)
total_picked ts (c ∷ cs) =
    let r = total_picked ts cs in
    let first = total_found (slice_get ts c) (picked ts cs) in
    let more = more_parts 0 ts c cs in
    let one = ap (single 0 ts) (let e : c ≡ 0 + c = omega arith in e) ∙ single_is 0 ts c in
    omega arith

times_found : (x : ℕ) (xss : List (List ℕ)) (c : ℕ) (yss : List (List ℕ)) → times x (flat (with_found (slice_get xss c) yss)) ≡ got (slice_get (map (times x) xss) c) + times x (flat yss)
times_found x [] c yss = omega arith
times_found x (xs ∷ xss) zero yss = times-append x xs (flat yss)
times_found x (xs ∷ xss) (suc c) yss = times_found x xss c yss

times_picked : (x : ℕ) (xss : List (List ℕ)) (order : List ℕ) → times x (flat (picked xss order)) ≡ total (picked (map (times x) xss) order)
times_picked x xss [] = refl
times_picked x xss (c ∷ cs) =
    let r = times_picked x xss cs in
    let one = times_found x xss c (picked xss cs) in
    let all = total_found (slice_get (map (times x) xss) c) (picked (map (times x) xss) cs) in
    omega arith

times_flat : (x : ℕ) (xss : List (List ℕ)) → times x (flat xss) ≡ total (map (times x) xss)
times_flat x [] = refl
times_flat x (xs ∷ xss) = let r = times_flat x xss in omega (arith, times-append x xs (flat xss))

same_length : (x : ℕ) (xss : List (List ℕ)) → length (map (times x) xss) ≡ length xss
same_length x [] = refl
same_length x (xs ∷ xss) = let r = same_length x xss in omega arith

-- in whatever order lists are put, each number stands as often among all of them
pub times_in_any_order : (x : ℕ) (xss : List (List ℕ)) (order : List ℕ) → EachOnceBelow (length xss) order → times x (flat (picked xss order)) ≡ times x (flat xss)
times_in_any_order x xss order each =
    times_picked x xss order ∙ total_picked (map (times x) xss) order
    ∙ all_parts 0 (map (times x) xss) order
    (λ i lt. ap (λ z. times z order) (let e : 0 + i ≡ i = omega arith in e) ∙ each i ∙ once_of_below i (length xss) (omega (arith, lt, same_length x xss)))
    ∙ sym (times_flat x xss)

-- so many numbers from one on
abbrev pub counted : ℕ → ℕ → List ℕ
counted from zero = []
counted from (suc m) = from ∷ counted (suc from) m

pub counted-append : (from m k : ℕ) → counted from m ++ counted (from + m) k ≡ counted from (m + k)
counted-append from zero k = ap (λ f. counted f k) (let e : from + 0 ≡ from = omega arith in e) ∙ ap (counted from) (let e : k ≡ 0 + k = omega arith in e)
counted-append from (suc m) k =
    ap (λ l. from ∷ l)
    (ap (λ f. counted (suc from) m ++ counted f k) (let e : from + suc m ≡ suc from + m = omega arith in e) ∙ counted-append (suc from) m k)
    ∙ ap (counted from) (let e : suc (m + k) ≡ suc m + k = omega arith in e)

pub times_counted : (x from m : ℕ) → times x (counted from m) + once_below x from ≡ once_below x (from + m)
times_counted x from zero = let same = ap (once_below x) (let e : from ≡ from + 0 = omega arith in e) in omega arith
times_counted x from (suc m) =
    let r = times_counted x (suc from) m in
    let next : once_below x (suc from) ≡ once_below x from + once x from = ap (once_below x) (let e : suc from ≡ from + 1 = omega arith in e) ∙ once_below-more x from in
    let same = ap (once_below x) (let e : suc from + m ≡ from + suc m = omega arith in e) in
    omega arith

pub counted_once : (n : ℕ) → EachOnceBelow n (counted 0 n)
counted_once n x =
    let r = times_counted x 0 n in
    let none : once_below x 0 ≡ 0 = grind (arith, nat_tests) in
    let same = ap (once_below x) (let e : 0 + n ≡ n = omega arith in e) in
    omega arith

-- the places of each of these lists, where they stand one behind another
abbrev pub spots : {A : Type 0} → ℕ → List (List A) → List (List ℕ)
spots from [] = []
spots from (xs ∷ xss) = counted from (length xs) ∷ spots (from + length xs) xss

pub flat_spots : {A : Type 0} (from : ℕ) (xss : List (List A)) → flat (spots from xss) ≡ counted from (length (flat xss))
flat_spots from [] = refl
flat_spots from (xs ∷ xss) =
    ap (λ l. counted from (length xs) ++ l) (flat_spots (from + length xs) xss) ∙ counted-append from (length xs) (length (flat xss))
    ∙ ap (counted from) (sym (long xs (flat xss)))
  where
    long : {A : Type 0} (xs ys : List A) → length (xs ++ ys) ≡ length xs + length ys
    long [] ys = omega arith
    long (x ∷ xs) ys = let r = long xs ys in omega arith

pub length_spots : {A : Type 0} (from : ℕ) (xss : List (List A)) → length (spots from xss) ≡ length xss
length_spots from [] = refl
length_spots from (xs ∷ xss) = let r = length_spots (from + length xs) xss in omega arith

at_front : {A : Type 0} (xs : List A) (y : A) (ys : List A) → slice_get (xs ++ y ∷ ys) (length xs) ≡ Some y
at_front [] y ys = refl
at_front (x ∷ xs) y ys = at_front xs y ys

regroup : {A : Type 0} (xs : List A) (y : A) (ys : List A) → xs ++ y ∷ ys ≡ (xs ++ y ∷ []) ++ ys
regroup [] y ys = refl
regroup (x ∷ xs) y ys = ap (λ l. x ∷ l) (regroup xs y ys)

-- what stands at the places of a list in the middle is that list
pub picked_middle : {A : Type 0} (front xs rest : List A) → picked (front ++ (xs ++ rest)) (counted (length front) (length xs)) ≡ xs
picked_middle front [] rest = refl
picked_middle front (x ∷ xs) rest =
    ap (λ o. with_found o (picked (front ++ (x ∷ (xs ++ rest))) (counted (suc (length front)) (length xs)))) (at_front front x (xs ++ rest))
    ∙ ap (λ l. x ∷ l)
    (ap (λ l. picked l (counted (suc (length front)) (length xs))) (regroup front x (xs ++ rest))
    ∙ ap (λ n. picked ((front ++ x ∷ []) ++ (xs ++ rest)) (counted n (length xs))) (one_more front x)
    ∙ picked_middle (front ++ x ∷ []) xs rest)
  where
    one_more : {A : Type 0} (xs : List A) (x : A) → suc (length xs) ≡ length (xs ++ x ∷ [])
    one_more [] x = refl
    one_more (y ∷ xs) x = let r = one_more xs x in omega arith
