-- Lists of terms and multiples of others.
use Rattle.std.proofs.Common.{◌≡◌, ◌≢◌, ℕ, ℤ, pos, ◌-◌, ◌^◌, ◌<◌, ◌≤◌, ◌+ℤ◌, ◌*ℤ◌, ◌==◌, nat_lt, get_or, take, drop, Bool, true, false, cond, List, [], ◌∷◌, ◌++◌, length, All, refl, sym, ap, ◌∙◌, subst, arith}
use Rattle.std.specs.Ordering.{int_eq}
use Rattle.std.proofs.Common.{length-append, append_assoc}
use Rattle.std.proofs.lemmas.Bool.Decides.{Decides-int_eq, Decides-eqb, Decides-ltb, nat_tests}
use Rattle.std.proofs.lemmas.List.Elements.{All-nil, All-cons, All-head, All-tail, All-weaker}
use Rattle.semantics.specs.Tree.{Variable}
use Rattle.affine.specs.declared.term.Term.{Term}
use Rattle.std.proofs.lemmas.List.{take_all}
use Rattle.affine.specs.Affine.{IsCanonical}
use Rattle.affine.specs.Arithmetic.{term, term_before, with_more, with_multiple}
use Rattle.affine.specs.Limits.{IsWithin, TermsFit}

-- each of the variables is above this one
abbrev pub Above : Variable → List Term → Type 0
Above x ts = All (λ u. x < u.variable.0) ts

-- a number is 0 or not
pub by_zero : {P : Type 0} (c : ℤ) → (c ≡ pos 0 → P) → (c ≢ pos 0 → P) → P
by_zero {P} c zero other = by (int_eq c (pos 0)) refl
  where
    by : (b : Bool) → int_eq c (pos 0) ≡ b → P
    by true e = zero ((Decides-int_eq c (pos 0)).0 e)
    by false e = other (λ (same : c ≡ pos 0). let yes = (Decides-int_eq c (pos 0)).1 same in cc)

pub term_before-zero : (x : Variable) (c : ℤ) (ts : List Term) → c ≡ pos 0 → term_before x c ts ≡ ts
term_before-zero x c ts e = ap (λ (b : Bool). cond b ts (term x c ∷ ts)) ((Decides-int_eq c (pos 0)).1 e)

pub term_before-other : (x : Variable) (c : ℤ) (ts : List Term) → c ≢ pos 0 → term_before x c ts ≡ term x c ∷ ts
term_before-other x c ts n = by (int_eq c (pos 0)) refl
  where
    by : (b : Bool) → int_eq c (pos 0) ≡ b → term_before x c ts ≡ term x c ∷ ts
    by true e = absurd (n ((Decides-int_eq c (pos 0)).0 e))
    by false e = ap (λ (b : Bool). cond b ts (term x c ∷ ts)) e

-- a term before others, as lists joined
pub term_before-nil : (x : Variable) (c : ℤ) (ts : List Term) → term_before x c [] ++ ts ≡ term_before x c ts
term_before-nil x c ts =
    by_zero c (λ e. ap (λ (us : List Term). us ++ ts) (term_before-zero x c [] e) ∙ sym (term_before-zero x c ts e))
    (λ n. ap (λ (us : List Term). us ++ ts) (term_before-other x c [] n) ∙ sym (term_before-other x c ts n))

-- in front of a variable that is above
pub with_more-front : (x : Variable) (c : ℤ) (t : Term) (ts : List Term) → x < t.variable.0 → with_more x c (t ∷ ts) ≡ term_before x c (t ∷ ts)
with_more-front x c t ts h = let less : nat_lt x t.variable.0 ≡ true = grind (arith, nat_tests) in cc

-- in front of all, where all variables are above
pub with_more-above : (x : Variable) (c : ℤ) (ts : List Term) → Above x ts → with_more x c ts ≡ term_before x c ts
with_more-above x c [] h = refl
with_more-above x c (t ∷ ts) h = with_more-front x c t ts (All-head (λ (u : Term). x < u.variable.0) t ts h)

-- behind a variable that is below
pub with_more-below : (x : Variable) (c : ℤ) (t : Term) (ts : List Term) → t.variable.0 < x → with_more x c (t ∷ ts) ≡ t ∷ with_more x c ts
with_more-below x c t ts h =
    let not_less : nat_lt x t.variable.0 ≡ false = grind (arith, nat_tests) in
    let not_same : t.variable.0 == x ≡ false = grind (arith, nat_tests) in
    cc

-- at the same variable
pub with_more-same : (x : Variable) (c : ℤ) (t : Term) (ts : List Term) → t.variable.0 ≡ x → with_more x c (t ∷ ts) ≡ term_before x (t.coefficient +ℤ c) ts
with_more-same x c t ts h =
    let not_less : nat_lt x t.variable.0 ≡ false = grind (arith, nat_tests) in
    let same : t.variable.0 == x ≡ true = grind (arith, nat_tests) in
    cc

pub Above-term_before : (v x : Variable) (c : ℤ) (ts : List Term) → v < x → Above v ts → Above v (term_before x c ts)
Above-term_before v x c ts less h =
    by_zero c (λ e. subst (Above v) (sym (term_before-zero x c ts e)) h)
    (λ n. subst (Above v) (sym (term_before-other x c ts n)) (All-cons (λ (u : Term). v < u.variable.0) (term x c) ts less h))

-- how two variables stand to one another
pub by_order : {P : Type 0} (x y : ℕ) → (x < y → P) → (x ≡ y → P) → (y < x → P) → P
by_order {P} x y less same more = by (nat_lt x y) (x == y) refl refl
  where
    by : (a b : Bool) → nat_lt x y ≡ a → x == y ≡ b → P
    by true b e f = less ((Decides-ltb x y).0 e)
    by false true e f = same ((Decides-eqb x y).0 f)
    by false false e f = more (grind (arith, nat_tests))

pub Above-lower : (v x : Variable) (ts : List Term) → v ≤ x → Above x ts → Above v ts
Above-lower v x ts less h = All-weaker (λ (u : Term). x < u.variable.0) (λ (u : Term). v < u.variable.0) (λ u k. omega arith) ts h

pub Above-with_more : (v x : Variable) (c : ℤ) (ts : List Term) → v < x → Above v ts → Above v (with_more x c ts)
Above-with_more v x c [] less h = Above-term_before v x c [] less h
Above-with_more v x c (t ∷ ts) less h =
    let P : Term → Type 0 = λ u. v < u.variable.0 in
    let rest : Above v ts = All-tail P t ts h in
    by_order x t.variable.0
    (λ k. subst (Above v) (sym (with_more-front x c t ts k)) (Above-term_before v x c (t ∷ ts) less h))
    (λ k. subst (Above v) (sym (with_more-same x c t ts (sym k))) (Above-term_before v x (t.coefficient +ℤ c) ts less rest))
    (λ k. subst (Above v) (sym (with_more-below x c t ts k)) (All-cons P t (with_more x c ts) (All-head P t ts h) (Above-with_more v x c ts less rest)))

pub Above-with_multiple : (v : Variable) (f : ℤ) (us ts : List Term) → Above v us → Above v ts → Above v (with_multiple f us ts)
Above-with_multiple v f [] ts hu ht = ht
Above-with_multiple v f (u ∷ us) ts hu ht =
    let P : Term → Type 0 = λ w. v < w.variable.0 in
    Above-with_more v u.variable.0 (f *ℤ u.coefficient) (with_multiple f us ts) (All-head P u us hu)
    (Above-with_multiple v f us ts (All-tail P u us hu) ht)

pub IsCanonical-term_before : (x : Variable) (c : ℤ) (ts : List Term) → Above x ts → IsCanonical ts → IsCanonical (term_before x c ts)
IsCanonical-term_before x c ts above h =
    by_zero c (λ e. subst IsCanonical (sym (term_before-zero x c ts e)) h)
    (λ n. subst IsCanonical (sym (term_before-other x c ts n)) (n, above, h))

pub IsCanonical-with_more : (x : Variable) (c : ℤ) (ts : List Term) → IsCanonical ts → IsCanonical (with_more x c ts)
IsCanonical-with_more x c [] h = IsCanonical-term_before x c [] (All-nil (λ (u : Term). x < u.variable.0)) tt
IsCanonical-with_more x c (t ∷ ts) h =
    let P : Term → Type 0 = λ u. x < u.variable.0 in
    by_order x t.variable.0
    (λ (k : x < t.variable.0). subst IsCanonical (sym (with_more-front x c t ts k))
    (IsCanonical-term_before x c (t ∷ ts) (All-cons P t ts k (Above-lower x t.variable.0 ts (omega arith) h.1)) h))
    (λ (k : x ≡ t.variable.0). subst IsCanonical (sym (with_more-same x c t ts (sym k)))
    (IsCanonical-term_before x (t.coefficient +ℤ c) ts (Above-lower x t.variable.0 ts (omega arith) h.1) h.2))
    (λ (k : t.variable.0 < x). subst IsCanonical (sym (with_more-below x c t ts k))
    (h.0, Above-with_more t.variable.0 x c ts k h.1, IsCanonical-with_more x c ts h.2))

-- a sum of terms is canonical
pub IsCanonical-with_multiple : (f : ℤ) (us ts : List Term) → IsCanonical ts → IsCanonical (with_multiple f us ts)
IsCanonical-with_multiple f [] ts h = h
IsCanonical-with_multiple f (u ∷ us) ts h =
    IsCanonical-with_more u.variable.0 (f *ℤ u.coefficient) (with_multiple f us ts) (IsCanonical-with_multiple f us ts h)

-- the least variable stands in the first list alone
pub with_multiple-below : (f : ℤ) (us : List Term) (t : Term) (ts : List Term) → Above t.variable.0 us → with_multiple f us (t ∷ ts) ≡ t ∷ with_multiple f us ts
with_multiple-below f [] t ts h = refl
with_multiple-below f (u ∷ us) t ts h =
    let P : Term → Type 0 = λ w. t.variable.0 < w.variable.0 in
    let c = f *ℤ u.coefficient in
    ap (with_more u.variable.0 c) (with_multiple-below f us t ts (All-tail P u us h))
    ∙ with_more-below u.variable.0 c t (with_multiple f us ts) (All-head P u us h)

-- in the second alone
pub with_multiple-above : (f : ℤ) (u : Term) (us ts : List Term) → Above u.variable.0 us → Above u.variable.0 ts
    → with_multiple f (u ∷ us) ts ≡ term_before u.variable.0 (f *ℤ u.coefficient) (with_multiple f us ts)
with_multiple-above f u us ts hu ht =
    with_more-above u.variable.0 (f *ℤ u.coefficient) (with_multiple f us ts) (Above-with_multiple u.variable.0 f us ts hu ht)

-- in both
pub with_multiple-same : (f : ℤ) (u : Term) (us : List Term) (t : Term) (ts : List Term) → t.variable.0 ≡ u.variable.0 → Above u.variable.0 us
    → with_multiple f (u ∷ us) (t ∷ ts) ≡ term_before t.variable.0 (t.coefficient +ℤ f *ℤ u.coefficient) (with_multiple f us ts)
with_multiple-same f u us t ts e hu =
    let c = f *ℤ u.coefficient in
    ap (with_more u.variable.0 c) (with_multiple-below f us t ts (subst (λ (x : ℕ). Above x us) (sym e) hu))
    ∙ with_more-same u.variable.0 c t (with_multiple f us ts) e
    ∙ ap (λ (x : ℕ). term_before x (t.coefficient +ℤ c) (with_multiple f us ts)) (sym e)

-- the list behind its first element, as a slice pattern gives it
abbrev pub behind_first : List Term → List Term
behind_first ts = take (length ts - 1) (drop 1 ts)

pub behind_first-cons : (t : Term) (ts : List Term) → behind_first (t ∷ ts) ≡ ts
behind_first-cons t ts = let e : length (t ∷ ts) - 1 ≡ length ts = omega arith in ap (λ (n : ℕ). take n ts) e ∙ take_all (length ts) ts (omega arith)

pub IsCanonical-above : (x : Variable) (ts : List Term) (d : Term) → IsCanonical ts → (0 < length ts → x < (get_or ts 0 d).variable.0) → Above x ts
IsCanonical-above x [] d h k = All-nil (λ (u : Term). x < u.variable.0)
IsCanonical-above x (t ∷ ts) d h k =
    let less : x < t.variable.0 = k (omega arith) in
    All-cons (λ (u : Term). x < u.variable.0) t ts less (Above-lower x t.variable.0 ts (omega arith) h.1)

-- the first list's first term comes first
pub split-base : (f : ℤ) (us ts : List Term) (d : Term) (c : ℤ) → 0 < length ts → IsCanonical us → IsCanonical ts
    → (0 < length us → (get_or ts 0 d).variable.0 < (get_or us 0 d).variable.0) → c ≡ (get_or ts 0 d).coefficient
    → with_multiple f us ts ≡ term_before (get_or ts 0 d).variable.0 c (with_multiple f us (behind_first ts))
split-base f us [] d c some hu ht first is = absurd (omega arith)
split-base f us (t ∷ ts) d c some hu ht first is =
    with_multiple-below f us t ts (IsCanonical-above t.variable.0 us d hu first)
    ∙ sym (ap (λ (n : ℤ). term_before t.variable.0 n (with_multiple f us (behind_first (t ∷ ts)))) is
    ∙ ap (λ (ss : List Term). term_before t.variable.0 t.coefficient (with_multiple f us ss)) (behind_first-cons t ts)
    ∙ term_before-other t.variable.0 t.coefficient (with_multiple f us ts) ht.0)

-- the second's
pub split-multiple : (f : ℤ) (us ts : List Term) (d : Term) (c : ℤ) → 0 < length us → IsCanonical us → IsCanonical ts
    → (0 < length ts → (get_or us 0 d).variable.0 < (get_or ts 0 d).variable.0) → c ≡ f *ℤ (get_or us 0 d).coefficient
    → with_multiple f us ts ≡ term_before (get_or us 0 d).variable.0 c (with_multiple f (behind_first us) ts)
split-multiple f [] ts d c some hu ht first is = absurd (omega arith)
split-multiple f (u ∷ us) ts d c some hu ht first is =
    with_multiple-above f u us ts hu.1 (IsCanonical-above u.variable.0 ts d ht first)
    ∙ sym (ap (λ (n : ℤ). term_before u.variable.0 n (with_multiple f (behind_first (u ∷ us)) ts)) is
    ∙ ap (λ (ss : List Term). term_before u.variable.0 (f *ℤ u.coefficient) (with_multiple f ss ts)) (behind_first-cons u us))

-- both have one variable first
pub split-both : (f : ℤ) (us ts : List Term) (d : Term) (c : ℤ) → 0 < length us → 0 < length ts → IsCanonical us
    → (get_or ts 0 d).variable.0 ≡ (get_or us 0 d).variable.0 → c ≡ (get_or ts 0 d).coefficient +ℤ f *ℤ (get_or us 0 d).coefficient
    → with_multiple f us ts ≡ term_before (get_or ts 0 d).variable.0 c (with_multiple f (behind_first us) (behind_first ts))
split-both f [] ts d c some more hu same is = absurd (omega arith)
split-both f (u ∷ us) [] d c some more hu same is = absurd (omega arith)
split-both f (u ∷ us) (t ∷ ts) d c some more hu same is =
    with_multiple-same f u us t ts same hu.1
    ∙ sym (ap (λ (n : ℤ). term_before t.variable.0 n (with_multiple f (behind_first (u ∷ us)) (behind_first (t ∷ ts)))) is
    ∙ ap (λ (ss : List Term). term_before t.variable.0 (t.coefficient +ℤ f *ℤ u.coefficient) (with_multiple f ss (behind_first (t ∷ ts)))) (behind_first-cons u us)
    ∙ ap (λ (ss : List Term). term_before t.variable.0 (t.coefficient +ℤ f *ℤ u.coefficient) (with_multiple f us ss)) (behind_first-cons t ts))

All-front : (P : Term → Type 0) (xs ys : List Term) → All P (xs ++ ys) → All P xs
All-front P [] ys h = All-nil P
All-front P (x ∷ xs) ys h = All-cons P x xs (All-head P x (xs ++ ys) h) (All-front P xs ys (All-tail P x (xs ++ ys) h))

pub TermsFit-front : (xs ys : List Term) → TermsFit (xs ++ ys) → TermsFit xs
TermsFit-front xs ys h = record { numbers = All-front (λ t. IsWithin (2 ^ 62) t.coefficient) xs ys h.numbers; variables = omega (arith, length-append xs ys) }

-- terms that pass the limits make a list that does
pub passes_limits : (xs : List Term) (x : Variable) (c : ℤ) (rest more total : List Term) → xs ++ rest ≡ total → rest ≡ term_before x c more
    → ¬ (TermsFit (xs ++ term_before x c [])) → ¬ (TermsFit total)
passes_limits xs x c rest more total e f n h =
    let joined : total ≡ (xs ++ term_before x c []) ++ more =
    sym e ∙ ap (λ (ys : List Term). xs ++ ys) (f ∙ sym (term_before-nil x c more)) ∙ sym (append_assoc xs (term_before x c []) more) in
    n (TermsFit-front (xs ++ term_before x c []) more (subst TermsFit joined h))

-- a loop's step: the total stays where a term moves to the front list
pub moved : (xs ys : List Term) (x : Variable) (c : ℤ) (rest more total : List Term) → ys ≡ xs ++ term_before x c [] → xs ++ rest ≡ total
    → rest ≡ term_before x c more → ys ++ more ≡ total
moved xs ys x c rest more total g e f =
    ap (λ (zs : List Term). zs ++ more) g ∙ append_assoc xs (term_before x c []) more
    ∙ ap (λ (zs : List Term). xs ++ zs) (term_before-nil x c more ∙ sym f) ∙ e
