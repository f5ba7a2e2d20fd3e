-- Orders of the numbers below n.
use Rattle.std.specs.Prelude.{ℕ, zero, suc, ◌≡◌, ◌+◌, ◌<◌, ◌≤◌, List, [], ◌∷◌, ◌++◌, length, take, Option, Some, None, slice_get}
use Rattle.std.proofs.Common.{refl, sym, ap, ◌∙◌, arith}
use Rattle.std.proofs.lemmas.Bool.Decides.{nat_tests}
use Rattle.std.proofs.lemmas.Option.{same_Some}
use Rattle.semantics.specs.Loops.Arrangement.{once, once_below, EachOnceBelow, with_found, picked}
use Rattle.semantics.specs.Meaning.Places.{below}
use Rattle.semantics.proofs.TicketLaw.{times-append, once_below-more}

pub inside : {A : Type 0} (xs : List A) (i : ℕ) → i < length xs → (x : A) × (slice_get xs i ≡ Some x)
inside [] i lt = absurd (omega arith)
inside (x ∷ xs) zero lt = (x, refl)
inside (x ∷ xs) (suc i) lt = inside xs i (omega arith)

take_more : {A : Type 0} (xs : List A) (i : ℕ) (x : A) → slice_get xs i ≡ Some x → take (suc i) xs ≡ take i xs ++ x ∷ []
take_more [] i x e = absurd cc
take_more (y ∷ ys) zero x e = let same = same_Some _ _ e in ap (λ z. z ∷ []) same
take_more (y ∷ ys) (suc i) x e = ap (λ l. y ∷ l) (take_more ys i x e)

take_full : {A : Type 0} (xs : List A) → take (length xs) xs ≡ xs
take_full [] = refl
take_full (x ∷ xs) = ap (λ l. x ∷ l) (take_full xs)

found-append : {A : Type 0} (o : Option A) (xs ys : List A) → with_found o (xs ++ ys) ≡ with_found o xs ++ ys
found-append None xs ys = refl
found-append (Some x) xs ys = refl

pub picked-append : {A : Type 0} (xs : List A) (cs ds : List ℕ) → picked xs (cs ++ ds) ≡ picked xs cs ++ picked xs ds
picked-append xs [] ds = refl
picked-append xs (c ∷ cs) ds = ap (with_found (slice_get xs c)) (picked-append xs cs ds) ∙ found-append (slice_get xs c) (picked xs cs) (picked xs ds)

picked_front : {A : Type 0} (xs : List A) (n : ℕ) → n ≤ length xs → picked xs (below n) ≡ take n xs
picked_front xs zero le = refl
picked_front xs (suc n) le =
    let x = inside xs n (omega arith) in
    picked-append xs (below n) (n ∷ []) ∙ ap (λ l. l ++ picked xs (n ∷ [])) (picked_front xs n (omega arith))
    ∙ ap (λ o. take n xs ++ with_found o []) x.1 ∙ sym (take_more xs n x.0 x.1)

-- in sequential order all are picked
pub picked_all : {A : Type 0} (xs : List A) → picked xs (below (length xs)) ≡ xs
picked_all xs = picked_front xs (length xs) (omega arith) ∙ take_full xs

pub below_once : (n : ℕ) → EachOnceBelow n (below n)
below_once zero x = let e : 0 ≡ once_below x 0 = grind (arith, nat_tests) in e
below_once (suc n) x =
    let more : once_below x (suc n) ≡ once_below x n + once x n = ap (once_below x) (let e : suc n ≡ n + 1 = omega arith in e) ∙ once_below-more x n in
    omega (arith, times-append x (below n) (n ∷ []), below_once n x, more)

pub once_itself : (c : ℕ) → once c c ≡ 1
once_itself c = grind (arith, nat_tests)

pub once_other : (c d : ℕ) → (d ≡ c → ⊥) → once c d ≡ 0
once_other c d other = grind (arith, nat_tests)

pub below_one : (c n : ℕ) → 1 ≤ once_below c n → c < n
below_one c n h = grind (arith, nat_tests)

pub once_of_below : (c n : ℕ) → c < n → once_below c n ≡ 1
once_of_below c n h = grind (arith, nat_tests)
