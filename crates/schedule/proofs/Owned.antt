-- Which chunks a worker owns.
use Rattle.std.specs.Prelude.{ℕ, zero, suc, Bool, true, false, cond, ◌≡◌, ◌≢◌, ◌==◌, ◌+◌, ◌*◌, ◌/◌, ◌%◌, ◌<◌, ◌≤◌, nat_lt, List, [], ◌∷◌, ◌++◌, length, filter, flat_map, Option, Some, None, slice_get}
use Rattle.std.proofs.Common.{refl, sym, ap, ◌∙◌, arith, inl, inr, add-one}
use Rattle.std.proofs.Math.Nat.{le_refl, mul-le-mul_left}
use Rattle.std.proofs.lemmas.Bool.{cases_lt, eq-eqb, eqb-true, eqb-false, lt-ltb, le-ltb}
use Rattle.std.proofs.lemmas.Bool.Decides.{nat_tests}
use Rattle.std.specs.Bool.{then_some}
use Rattle.std.proofs.lemmas.Option.{slice_get_past}
use Rattle.std.proofs.lemmas.List.{append-nil, length-append}
use Rattle.std.proofs.lemmas.List.Elements.{filter-append}
use Rattle.std.proofs.lemmas.Grind.{flat_map-append}
use Rattle.std.proofs.lemmas.Nat.{div-add-mod', mod-mul-add, mod_below}
use Rattle.semantics.specs.Meaning.Places.{below}
use Rattle.semantics.specs.Loops.Arrangement.{times, once, once_below}
use Rattle.semantics.specs.Loops.Chunk.{Kind, PlainStatic, Static, Dynamic, Guided, cut, owner}
use Rattle.semantics.specs.Teams.Machine.{own_chunks, is_mine}
use Rattle.semantics.proofs.TicketLaw.{times-append, once_below-more}
use Rattle.semantics.proofs.LawAnswers.{owners_are_workers}
use Rattle.schedule.specs.Part.{WorkersShareChunks}
use Rattle.schedule.proofs.Sized.{get-append_left, get-append_seam}

-- a number, where it is below n
abbrev pub if_below : ℕ → ℕ → Option ℕ
if_below x n = then_some (nat_lt x n) x

pub below-if : (x n : ℕ) → x < n → if_below x n ≡ Some x
below-if x n lt = ap (λ b. then_some b x) (lt-ltb x n lt)

pub past-if : (x n : ℕ) → n ≤ x → if_below x n ≡ None
past-if x n le = ap (λ b. then_some b x) (le-ltb x n le)

-- every P-th number from w on, of those below n
abbrev pub in_turn : ℕ → ℕ → ℕ → List ℕ
in_turn p w n = filter (λ c. c % p == w) (below n)

taken : (p w n : ℕ) → n % p ≡ w → in_turn p w (suc n) ≡ in_turn p w n ++ n ∷ []
taken p w n e = filter-append (λ c. c % p == w) (below n) (n ∷ []) ∙ ap (λ b. in_turn p w n ++ cond b (n ∷ []) []) (eq-eqb (n % p) w e)

left_out : (p w n : ℕ) → (n % p == w) ≡ false → in_turn p w (suc n) ≡ in_turn p w n
left_out p w n e = filter-append (λ c. c % p == w) (below n) (n ∷ []) ∙ ap (λ b. in_turn p w n ++ cond b (n ∷ []) []) e ∙ append-nil (in_turn p w n)

-- what is known of them: place j has w + p * j, where that is below n
record Turns (p w n : ℕ) : Type 0 where
  at : (j : ℕ) → slice_get (in_turn p w n) j ≡ if_below (p * j + w) n
  inside : (j : ℕ) → j < length (in_turn p w n) → p * j + w < n
  past : (j : ℕ) → length (in_turn p w n) ≤ j → n ≤ p * j + w

place : (p w n : ℕ) → 0 < p → n % p ≡ w → Turns p w n → p * length (in_turn p w n) + w ≡ n
place p w n some e t =
    let whole : n / p * p + n % p ≡ n = div-add-mod' n p in
    elim (cases_lt (n / p) (length (in_turn p w n))) [
      | inl before ↦ absurd (let h = t.inside (n / p) before in omega arith)
      | inr within ↦ elim (cases_lt (length (in_turn p w n)) (n / p)) [
        | inl short ↦ absurd (let h = t.past (length (in_turn p w n)) (le_refl (length (in_turn p w n))) in let m = mul-le-mul_left p short in omega arith)
        | inr exact ↦ let same : length (in_turn p w n) ≡ n / p = omega arith in omega (arith, ap (λ k. p * k) same)
      ]
    ]

turn_taken : (p w n : ℕ) → 0 < p → n % p ≡ w → Turns p w n → Turns p w (suc n)
turn_taken p w n some e t = record { at = at_place; inside = inside_place; past = past_place }
  where
    here : p * length (in_turn p w n) + w ≡ n
    here = place p w n some e t

    count : length (in_turn p w (suc n)) ≡ length (in_turn p w n) + 1
    count = ap length (taken p w n e) ∙ length-append (in_turn p w n) (n ∷ [])

    inside_place : (j : ℕ) → j < length (in_turn p w (suc n)) → p * j + w < suc n
    inside_place j lt = elim (cases_lt j (length (in_turn p w n))) [
      | inl before ↦ let h = t.inside j before in omega arith
      | inr late ↦ let same : j ≡ length (in_turn p w n) = omega (arith, count) in omega (arith, ap (λ k. p * k) same, here)
    ]

    past_place : (j : ℕ) → length (in_turn p w (suc n)) ≤ j → suc n ≤ p * j + w
    past_place j le = let m = mul-le-mul_left p (let q : suc (length (in_turn p w n)) ≤ j = omega (arith, count) in q) in omega (arith, here)

    at_place : (j : ℕ) → slice_get (in_turn p w (suc n)) j ≡ if_below (p * j + w) (suc n)
    at_place j = ap (λ l. slice_get l j) (taken p w n e) ∙ elim (cases_lt j (length (in_turn p w n))) [
      | inl before ↦
          let h = t.inside j before in
          get-append_left (in_turn p w n) (n ∷ []) j before ∙ t.at j ∙ below-if (p * j + w) n h ∙ sym (below-if (p * j + w) (suc n) (omega arith))
      | inr late ↦ elim (cases_lt (length (in_turn p w n)) j) [
        | inl past ↦
            slice_get_past (in_turn p w n ++ n ∷ []) j (let q = length-append (in_turn p w n) (n ∷ []) in omega arith)
            ∙ sym (past-if (p * j + w) (suc n) (past_place j (omega (arith, count))))
        | inr exact ↦
            let same : j ≡ length (in_turn p w n) = omega arith in
            let number : n ≡ p * j + w = omega (arith, ap (λ k. p * k) same, here) in
            get-append_seam (in_turn p w n) n [] j same ∙ ap Some number ∙ sym (below-if (p * j + w) (suc n) (omega arith))
      ]
    ]

turn_left_out : (p w n : ℕ) → w < p → (n % p == w) ≡ false → Turns p w n → Turns p w (suc n)
turn_left_out p w n lt e t = record { at = at_place; inside = inside_place; past = past_place }
  where
    same : in_turn p w (suc n) ≡ in_turn p w n
    same = left_out p w n e

    apart : (j : ℕ) → p * j + w ≢ n
    apart j q = let turn = mod-mul-add j p w lt in let o : j * p + w ≡ n = omega arith in let r : n % p ≡ w = ap (λ k. k % p) (sym o) ∙ turn in let b = eq-eqb (n % p) w r in cc

    inside_place : (j : ℕ) → j < length (in_turn p w (suc n)) → p * j + w < suc n
    inside_place j h = let q = ap length same in let i = t.inside j (omega arith) in omega arith

    past_place : (j : ℕ) → length (in_turn p w (suc n)) ≤ j → suc n ≤ p * j + w
    past_place j h = let q = ap length same in let i = t.past j (omega arith) in let a = apart j in omega arith

    at_place : (j : ℕ) → slice_get (in_turn p w (suc n)) j ≡ if_below (p * j + w) (suc n)
    at_place j = ap (λ l. slice_get l j) same ∙ t.at j ∙ elim (cases_lt (p * j + w) n) [
      | inl before ↦ below-if (p * j + w) n before ∙ sym (below-if (p * j + w) (suc n) (omega arith))
      | inr late ↦ let a = apart j in past-if (p * j + w) n late ∙ sym (past-if (p * j + w) (suc n) (omega arith))
    ]

turns : (p w : ℕ) → w < p → (n : ℕ) → Turns p w n
turns p w lt zero = record { at = λ j. sym (past-if (p * j + w) 0 (omega arith)); inside = λ j h. absurd (omega arith); past = λ j h. omega arith }
turns p w lt (suc n) = go (n % p == w) refl (turns p w lt n)
  where
    go : (b : Bool) → (n % p == w) ≡ b → Turns p w n → Turns p w (suc n)
    go true e t = turn_taken p w n (omega arith) (eqb-true (n % p) w e) t
    go false e t = turn_left_out p w n lt e t

-- worker w's chunk j, of those dealt in turn
pub own_in_turn : (p w n j : ℕ) → w < p → slice_get (in_turn p w n) j ≡ if_below (p * j + w) n
own_in_turn p w n j lt = (turns p w lt n).at j

-- of plain static, worker w has chunk w, where there is one
own_one : (w n : ℕ) → filter (λ c. c == w) (below n) ≡ cond (nat_lt w n) (w ∷ []) []
own_one w zero = ap (λ b. cond b (w ∷ []) []) (sym (le-ltb w 0 (omega arith)))
own_one w (suc n) = filter-append (λ c. c == w) (below n) (n ∷ []) ∙ ap (λ l. l ++ filter (λ c. c == w) (n ∷ [])) (own_one w n) ∙ go (n == w) refl
  where
    go : (b : Bool) → (n == w) ≡ b → cond (nat_lt w n) (w ∷ []) [] ++ cond (n == w) (n ∷ []) [] ≡ cond (nat_lt w (suc n)) (w ∷ []) []
    go true e =
        let same = eqb-true n w e in
        ap (λ b. cond (nat_lt w n) (w ∷ []) [] ++ cond b (n ∷ []) []) e
        ∙ ap (λ b. cond b (w ∷ []) [] ++ n ∷ []) (le-ltb w n (omega arith))
        ∙ ap (λ k. k ∷ []) same
        ∙ ap (λ b. cond b (w ∷ []) []) (sym (lt-ltb w (suc n) (omega arith)))
    go false e = ap (λ b. cond (nat_lt w n) (w ∷ []) [] ++ cond b (n ∷ []) []) e ∙ append-nil (cond (nat_lt w n) (w ∷ []) []) ∙ ap (λ b. cond b (w ∷ []) []) (let a = eqb-false n w e in grind (arith, nat_tests))

pub own_first : (w n : ℕ) → slice_get (filter (λ c. c == w) (below n)) 0 ≡ if_below w n
own_first w n = ap (λ l. slice_get l 0) (own_one w n) ∙ go (nat_lt w n)
  where
    go : (b : Bool) → slice_get (cond b (w ∷ []) []) 0 ≡ then_some b w
    go true = refl
    go false = refl

pub own_no_more : (w n j : ℕ) → 0 < j → slice_get (filter (λ c. c == w) (below n)) j ≡ None
own_no_more w n zero lt = absurd (omega arith)
own_no_more w n (suc j) lt = ap (λ l. slice_get l (suc j)) (own_one w n) ∙ go (nat_lt w n)
  where
    go : (b : Bool) → slice_get (cond b (w ∷ []) []) (suc j) ≡ None
    go true = refl
    go false = refl

once_apart : (x y : ℕ) → y ≢ x → once x y ≡ 0
once_apart x y ne = grind (arith, nat_tests)

cond_none : (b : Bool) → cond {A = ℕ} b 0 0 ≡ 0
cond_none true = refl
cond_none false = refl

times-filter : (x : ℕ) (p : ℕ → Bool) (xs : List ℕ) → times x (filter p xs) ≡ cond (p x) (times x xs) 0
times-filter x p [] = sym (cond_none (p x))
times-filter x p (y ∷ ys) = go (p y) (p x) refl refl (times-filter x p ys)
  where
    differ : p y ≡ true → p x ≡ false → y ≢ x
    differ e q same = let r = ap p same in cc

    differ' : p y ≡ false → p x ≡ true → y ≢ x
    differ' e q same = let r = ap p same in cc

    go : (a b : Bool) → p y ≡ a → p x ≡ b → times x (filter p ys) ≡ cond b (times x ys) 0 → times x (cond a (y ∷ filter p ys) (filter p ys)) ≡ cond b (times x (y ∷ ys)) 0
    go true true e q r = omega arith
    go true false e q r = let o = once_apart x y (differ e q) in omega arith
    go false true e q r = let o = once_apart x y (differ' e q) in omega arith
    go false false e q r = r

times-below : (x n : ℕ) → times x (below n) ≡ once_below x n
times-below x zero = grind (arith, nat_tests)
times-below x (suc n) =
    let r = times-append x (below n) (n ∷ []) in let q = times-below x n in let o = once_below-more x n in
    let e : once_below x (n + 1) ≡ once_below x (suc n) = ap (once_below x) (add-one n) in
    omega arith

one_more : (v m t : ℕ) → cond (nat_lt v m) t 0 + cond (v == m) t 0 ≡ cond (nat_lt v (suc m)) t 0
one_more v m t = grind (arith, nat_tests)

-- how often x stands in the own chunks of the workers below m, where its owner is v
owned_below : (kind : Kind) (n p x v m : ℕ) → owner kind x p ≡ Some v → times x (flat_map (own_chunks kind n p) (below m)) ≡ cond (nat_lt v m) (once_below x n) 0
owned_below kind n p x v zero e = ap (λ b. cond b (once_below x n) 0) (sym (le-ltb v 0 (omega arith)))
owned_below kind n p x v (suc m) e =
    let whole = ap (times x) (flat_map-append (own_chunks kind n p) (below m) (m ∷ [])) in
    let parts = times-append x (flat_map (own_chunks kind n p) (below m)) (own_chunks kind n p m ++ []) in
    let last = times-append x (own_chunks kind n p m) [] in
    let one = times-filter x (λ c. is_mine m (owner kind c p)) (below n) ∙ ap (λ o. cond (is_mine m o) (times x (below n)) 0) e ∙ ap (λ t. cond (v == m) t 0) (times-below x n) in
    omega (arith, owned_below kind n p x v m e, one_more v m (once_below x n))

all_owned : (v p x n : ℕ) → (x < n → v < p) → cond (nat_lt v p) (once_below x n) 0 ≡ once_below x n
all_owned v p x n h = elim (cases_lt x n) [
  | inl lt ↦ ap (λ b. cond b (once_below x n) 0) (lt-ltb v p (h lt))
  | inr le ↦ let none : once_below x n ≡ 0 = ap (λ b. cond b 1 0) (le-ltb x n le) in ap (λ t. cond (nat_lt v p) t 0) none ∙ cond_none (nat_lt v p) ∙ sym none
]

pub workers_share_chunks : WorkersShareChunks
workers_share_chunks PlainStatic n workers fixed some x =
    let m = length (cut PlainStatic n workers) in
    owned_below PlainStatic m workers x x workers refl ∙ all_owned x workers x m (λ lt. owners_are_workers PlainStatic n workers x x some lt refl)
workers_share_chunks (Static k) n workers fixed some x =
    let m = length (cut (Static k) n workers) in
    owned_below (Static k) m workers x (x % workers) workers refl ∙ all_owned (x % workers) workers x m (λ lt. mod_below x workers some)
workers_share_chunks (Dynamic k) n workers fixed some x = absurd cc
workers_share_chunks (Guided k) n workers fixed some x = absurd cc
