-- What sums, multiples and substitutions stand for.
use Rattle.std.proofs.Common.{◌≡◌, ◌≢◌, ℕ, ℤ, pos, negsuc, ◌<◌, ◌+ℤ◌, ◌-ℤ◌, ◌*ℤ◌, ◌==◌, Bool, true, false, cond, List, [], ◌∷◌, All, refl, sym, ap, ◌∙◌, subst, arith}
use Rattle.std.proofs.lemmas.Int.{ints}
use Rattle.std.proofs.lemmas.Bool.Decides.{Decides-eqb, nat_tests}
use Rattle.std.proofs.lemmas.List.Elements.{All-cons, All-head, All-tail}
use lib.IntN.{zero-*ℤ, *ℤ-zero}
use Rattle.semantics.specs.Tree.{Variable}
use Rattle.affine.specs.declared.term.Term.{Term}
use Rattle.affine.specs.Affine.{Affine, term_sum, value, coefficient_at, with_value, IsCanonical}
use Rattle.affine.specs.Arithmetic.{term_before, with_more, with_multiple, plus_multiple, sum_form, multiple_form, constant_form, substituted, terms_without}
use Rattle.affine.proofs.Whole.{sum-times, times-sum, times-times}
use Rattle.affine.proofs.Terms.{Above, by_zero, by_order, term_before-zero, term_before-other, with_more-front, with_more-same, with_more-below}

term_sum-term_before : (x : Variable) (c : ℤ) (ts : List Term) (v : Variable → ℤ) → term_sum (term_before x c ts) v ≡ c *ℤ v x +ℤ term_sum ts v
term_sum-term_before x c ts v =
    by_zero c
    (λ (e : c ≡ pos 0).
    let product : c *ℤ v x ≡ pos 0 = ap (λ (n : ℤ). n *ℤ v x) e ∙ zero-*ℤ (v x) in
    let sum : term_sum ts v ≡ c *ℤ v x +ℤ term_sum ts v = omega (arith, ints) in
    ap (λ (us : List Term). term_sum us v) (term_before-zero x c ts e) ∙ sum)
    (λ n. ap (λ (us : List Term). term_sum us v) (term_before-other x c ts n))

term_sum-with_more : (x : Variable) (c : ℤ) (ts : List Term) (v : Variable → ℤ) → term_sum (with_more x c ts) v ≡ c *ℤ v x +ℤ term_sum ts v
term_sum-with_more x c [] v = term_sum-term_before x c [] v
term_sum-with_more x c (t ∷ ts) v =
    let of : List Term → ℤ = λ us. term_sum us v in
    by_order x t.variable.0
    (λ k. ap of (with_more-front x c t ts k) ∙ term_sum-term_before x c (t ∷ ts) v)
    (λ (k : x ≡ t.variable.0).
    let whole = ap of (with_more-same x c t ts (sym k)) ∙ term_sum-term_before x (t.coefficient +ℤ c) ts v in
    let apart = sum-times t.coefficient c (v x) in
    let same : t.coefficient *ℤ v x ≡ t.coefficient *ℤ v t.variable.0 = ap (λ (y : ℕ). t.coefficient *ℤ v y) k in
    let end : (t.coefficient +ℤ c) *ℤ v x +ℤ term_sum ts v ≡ c *ℤ v x +ℤ (t.coefficient *ℤ v t.variable.0 +ℤ term_sum ts v) =
    sum_of_three _ _ _ _ _ apart same in
    whole ∙ end)
    (λ k.
    let whole = ap of (with_more-below x c t ts k) in
    let rest = ap (λ (n : ℤ). t.coefficient *ℤ v t.variable.0 +ℤ n) (term_sum-with_more x c ts v) in
    whole ∙ rest ∙ swapped (t.coefficient *ℤ v t.variable.0) (c *ℤ v x) (term_sum ts v))
  where
    swapped : (a b r : ℤ) → a +ℤ (b +ℤ r) ≡ b +ℤ (a +ℤ r)
    swapped a b r = omega (arith, ints)

    sum_of_three : (whole a b a' r : ℤ) → whole ≡ a +ℤ b → a ≡ a' → whole +ℤ r ≡ b +ℤ (a' +ℤ r)
    sum_of_three whole a b a' r e f = omega (arith, ints)

-- the sum of terms and a multiple of others
pub term_sum-with_multiple : (f : ℤ) (us ts : List Term) (v : Variable → ℤ) → term_sum (with_multiple f us ts) v ≡ term_sum ts v +ℤ f *ℤ term_sum us v
term_sum-with_multiple f [] ts v = let none = *ℤ-zero f in nothing (term_sum ts v) (f *ℤ pos 0) none
  where
    nothing : (a b : ℤ) → b ≡ pos 0 → a ≡ a +ℤ b
    nothing a b e = omega (arith, ints)
term_sum-with_multiple f (u ∷ us) ts v =
    term_sum-with_more u.variable.0 (f *ℤ u.coefficient) (with_multiple f us ts) v
    ∙ joined _ _ _ _ _ _ (term_sum-with_multiple f us ts v) (times-times f u.coefficient (v u.variable.0)) (times-sum (u.coefficient *ℤ v u.variable.0) (term_sum us v) f)
  where
    joined : (p p' rest sum more whole : ℤ) → rest ≡ sum +ℤ more → p ≡ p' → whole ≡ p' +ℤ more → p +ℤ rest ≡ sum +ℤ whole
    joined p p' rest sum more whole e g h = omega (arith, ints)

-- the value of a form and a multiple of another
pub value-plus_multiple : (a : Affine) (f : ℤ) (b : Affine) (v : Variable → ℤ) → value (plus_multiple a f b) v ≡ value a v +ℤ f *ℤ value b v
value-plus_multiple a f b v =
    regrouped a.constant (f *ℤ b.constant) _ (term_sum a.terms v) (f *ℤ term_sum b.terms v) _ (term_sum-with_multiple f b.terms a.terms v) (times-sum b.constant (term_sum b.terms v) f)
  where
    regrouped : (c d sum s t whole : ℤ) → sum ≡ s +ℤ t → whole ≡ d +ℤ t → (c +ℤ d) +ℤ sum ≡ (c +ℤ s) +ℤ whole
    regrouped c d sum s t whole e g = omega (arith, ints)

pub value-sum_form : (a b : Affine) (v : Variable → ℤ) → value (sum_form a b) v ≡ value a v +ℤ value b v
value-sum_form a b v = value-plus_multiple a (pos 1) b v ∙ once (value a v) (value b v)
  where
    once : (m n : ℤ) → m +ℤ pos 1 *ℤ n ≡ m +ℤ n
    once m n = omega (arith, ints)

pub value-difference : (a b : Affine) (v : Variable → ℤ) → value (plus_multiple a (negsuc 0) b) v ≡ value a v -ℤ value b v
value-difference a b v = value-plus_multiple a (negsuc 0) b v ∙ less (value a v) (value b v)
  where
    less : (m n : ℤ) → m +ℤ negsuc 0 *ℤ n ≡ m -ℤ n
    less m n = omega (arith, ints)

pub value-multiple_form : (a : Affine) (f : ℤ) (v : Variable → ℤ) → value (multiple_form a f) v ≡ value a v *ℤ f
value-multiple_form a f v = value-plus_multiple (constant_form (pos 0)) f a v ∙ turned f (value a v)
  where
    turned : (m n : ℤ) → (pos 0 +ℤ pos 0) +ℤ m *ℤ n ≡ n *ℤ m
    turned m n = omega (arith, ints)

-- terms see the values of their own variables alone
pub term_sum-agree : (ts : List Term) (v w : Variable → ℤ) → All (λ t. v t.variable.0 ≡ w t.variable.0) ts → term_sum ts v ≡ term_sum ts w
term_sum-agree [] v w h = refl
term_sum-agree (t ∷ ts) v w h =
    let P : Term → Type 0 = λ u. v u.variable.0 ≡ w u.variable.0 in
    ap (λ (n : ℤ). t.coefficient *ℤ n +ℤ term_sum ts v) (All-head P t ts h)
    ∙ ap (λ (n : ℤ). t.coefficient *ℤ w t.variable.0 +ℤ n) (term_sum-agree ts v w (All-tail P t ts h))

-- a value that is given to a variable is seen at that one alone
pub with_value-same : (v : Variable → ℤ) (x : Variable) (n : ℤ) (y : Variable) → y ≡ x → with_value v x n y ≡ n
with_value-same v x n y e = ap (λ (b : Bool). cond b n (v y)) ((Decides-eqb y x).1 e)

pub with_value-other : (v : Variable → ℤ) (x : Variable) (n : ℤ) (y : Variable) → y ≢ x → with_value v x n y ≡ v y
with_value-other v x n y e = let different : y == x ≡ false = grind (arith, nat_tests) in ap (λ (b : Bool). cond b n (v y)) different

term_sum-above : (ts : List Term) (v : Variable → ℤ) (x : Variable) (n : ℤ) → Above x ts → term_sum ts (with_value v x n) ≡ term_sum ts v
term_sum-above [] v x n h = refl
term_sum-above (t ∷ ts) v x n h =
    let P : Term → Type 0 = λ u. x < u.variable.0 in
    let less : x < t.variable.0 = All-head P t ts h in
    let different : t.variable.0 ≢ x = λ e. omega arith in
    ap (λ (m : ℤ). t.coefficient *ℤ m +ℤ term_sum ts (with_value v x n)) (with_value-other v x n t.variable.0 different)
    ∙ ap (λ (m : ℤ). t.coefficient *ℤ v t.variable.0 +ℤ m) (term_sum-above ts v x n (All-tail P t ts h))

-- another value for a variable
pub term_sum-with_value : (ts : List Term) (v : Variable → ℤ) (x : Variable) (n : ℤ) → IsCanonical ts
    → term_sum ts (with_value v x n) ≡ term_sum (terms_without x ts) v +ℤ coefficient_at ts x *ℤ n
term_sum-with_value [] v x n h = let none = zero-*ℤ n in omega (arith, ints)
term_sum-with_value (t ∷ ts) v x n h = by (term_sum-with_value ts v x n h.2) (t.variable.0 == x) refl
  where
    first : (p r : ℤ) → p +ℤ r ≡ r +ℤ p
    first p r = omega (arith, ints)

    later : (p r s c : ℤ) → r ≡ s +ℤ c → p +ℤ r ≡ (p +ℤ s) +ℤ c
    later p r s c e = omega (arith, ints)

    by : term_sum ts (with_value v x n) ≡ term_sum (terms_without x ts) v +ℤ coefficient_at ts x *ℤ n → (b : Bool) → t.variable.0 == x ≡ b
        → t.coefficient *ℤ with_value v x n t.variable.0 +ℤ term_sum ts (with_value v x n)
        ≡ term_sum (cond (t.variable.0 == x) ts (t ∷ terms_without x ts)) v +ℤ cond (t.variable.0 == x) t.coefficient (coefficient_at ts x) *ℤ n
    by rest true e =
        let same : t.variable.0 ≡ x = (Decides-eqb t.variable.0 x).0 e in
        ap (λ (m : ℤ). t.coefficient *ℤ m +ℤ term_sum ts (with_value v x n)) (with_value-same v x n t.variable.0 same)
        ∙ ap (λ (m : ℤ). t.coefficient *ℤ n +ℤ m) (term_sum-above ts v x n (subst (λ (y : ℕ). Above y ts) same h.1))
        ∙ first (t.coefficient *ℤ n) (term_sum ts v)
        ∙ sym (ap (λ (b : Bool). term_sum (cond b ts (t ∷ terms_without x ts)) v +ℤ cond b t.coefficient (coefficient_at ts x) *ℤ n) e)
    by rest false e =
        let different : t.variable.0 ≢ x = grind (arith, nat_tests) in
        ap (λ (m : ℤ). t.coefficient *ℤ m +ℤ term_sum ts (with_value v x n)) (with_value-other v x n t.variable.0 different)
        ∙ later (t.coefficient *ℤ v t.variable.0) (term_sum ts (with_value v x n)) (term_sum (terms_without x ts) v) (coefficient_at ts x *ℤ n) rest
        ∙ sym (ap (λ (b : Bool). term_sum (cond b ts (t ∷ terms_without x ts)) v +ℤ cond b t.coefficient (coefficient_at ts x) *ℤ n) e)

pub value-substituted : (a : Affine) (x : Variable) (by : Affine) (v : Variable → ℤ) → IsCanonical a.terms
    → value (substituted a x by) v ≡ value a (with_value v x (value by v))
value-substituted a x b v h =
    value-plus_multiple (record a { terms = terms_without x a.terms }) (coefficient_at a.terms x) b v
    ∙ grouped a.constant (term_sum (terms_without x a.terms) v) (coefficient_at a.terms x *ℤ value b v) _ (term_sum-with_value a.terms v x (value b v) h)
  where
    grouped : (c s p sum : ℤ) → sum ≡ s +ℤ p → (c +ℤ s) +ℤ p ≡ c +ℤ sum
    grouped c s p sum e = omega (arith, ints)

Above-terms_without : (y x : Variable) (ts : List Term) → Above y ts → Above y (terms_without x ts)
Above-terms_without y x [] h = h
Above-terms_without y x (t ∷ ts) h =
    let P : Term → Type 0 = λ u. y < u.variable.0 in
    let rest = All-tail P t ts h in
    elim (t.variable.0 == x) as (λ (b : Bool). Above y (cond b ts (t ∷ terms_without x ts)))
    [ true ↦ rest | false ↦ All-cons P t (terms_without x ts) (All-head P t ts h) (Above-terms_without y x ts rest) ]

pub IsCanonical-terms_without : (x : Variable) (ts : List Term) → IsCanonical ts → IsCanonical (terms_without x ts)
IsCanonical-terms_without x [] h = h
IsCanonical-terms_without x (t ∷ ts) h =
    elim (t.variable.0 == x) as (λ (b : Bool). IsCanonical (cond b ts (t ∷ terms_without x ts)))
    [ true ↦ h.2 | false ↦ (h.0, Above-terms_without t.variable.0 x ts h.1, IsCanonical-terms_without x ts h.2) ]
