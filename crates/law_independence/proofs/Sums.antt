-- Sums over the counters of loops.
use Rattle.std.specs.Prelude.{ℕ, zero, suc, Bool, true, false, ◌≡◌, ◌<◌, ◌≤◌, ◌==◌, ◌+◌, ℤ, pos, ◌+ℤ◌, ◌*ℤ◌, List, [], ◌∷◌, ◌++◌, All}
use Rattle.std.proofs.Common.{refl, sym, ap, ◌∙◌, subst, arith, get_or}
use Rattle.std.proofs.lemmas.Bool.{eqb-true, eqb-false}
use Rattle.std.proofs.lemmas.Int.{ints}
use Rattle.affine.specs.declared.term.Term.{Term}
use Rattle.affine.specs.Affine.{Affine, term_sum, value, coefficient_at, with_value, IsCanonical}
use Rattle.affine.specs.Arithmetic.{constant_form, sum_form, multiple_form, terms_without}
use Rattle.affine.proofs.Terms.{IsCanonical-with_multiple}
use Rattle.affine.proofs.Values.{term_sum-agree, term_sum-with_value, with_value-same, with_value-other}
use Rattle.pairtest_counter.specs.declared.level.EnclosingLoop.{EnclosingLoop}
use Rattle.pairtest_counter.specs.Counters.{Adds, none_left, one_more, InCounters}
use Rattle.pairtest_access.specs.Found.{coefficients}
use Rattle.pairtest.specs.Meetings.{counter_sum}

-- ---- stretches of counters

-- the values of a function from one number on, so many
abbrev pub stretch : {A : Type 0} → ℕ → ℕ → (ℕ → A) → List A
stretch from zero f = []
stretch from (suc n) f = f from ∷ stretch (suc from) n f

pub stretch-join : {A : Type 0} (m n from : ℕ) (f : ℕ → A) → stretch from m f ++ stretch (from + m) n f ≡ stretch from (m + n) f
stretch-join zero n from f = let a : from + zero ≡ from = omega arith in let b : zero + n ≡ n = omega arith in ap (λ k. stretch k n f) a ∙ ap (λ k. stretch from k f) (sym b)
stretch-join (suc m) n from f =
    let a : from + suc m ≡ suc from + m = omega arith in
    let b : suc m + n ≡ suc (m + n) = omega arith in
    ap (λ xs. f from ∷ xs) (ap (λ k. stretch (suc from) m f ++ stretch k n f) a ∙ stretch-join m n (suc from) f) ∙ ap (λ k. stretch from k f) (sym b)

pub stretch-last : {A : Type 0} (n from : ℕ) (f : ℕ → A) → stretch from (suc n) f ≡ stretch from n f ++ (f (from + n) ∷ [])
stretch-last n from f =
    let a : n + 1 ≡ suc n = omega arith in
    sym (stretch-join n 1 from f ∙ ap (λ k. stretch from k f) a)

pub stretch-same : {A : Type 0} (n from : ℕ) (f g : ℕ → A) → ((j : ℕ) → from ≤ j → j < from + n → f j ≡ g j) → stretch from n f ≡ stretch from n g
stretch-same zero from f g same = refl
stretch-same (suc n) from f g same =
    let first = same from (omega arith) (omega arith) in
    let rest = stretch-same n (suc from) f g (λ j le lt. same j (omega arith) (omega arith)) in
    λ i. first i ∷ rest i

abbrev head_or : {A : Type 0} → A → List A → A
head_or d [] = d
head_or d (x ∷ xs) = x

abbrev rest_of : {A : Type 0} → List A → List A
rest_of [] = []
rest_of (x ∷ xs) = xs

-- equal stretches have equal values
pub stretch-tells : {A : Type 0} (n from : ℕ) (f g : ℕ → A) → stretch from n f ≡ stretch from n g → (j : ℕ) → from ≤ j → j < from + n → f j ≡ g j
stretch-tells zero from f g e j le lt = absurd (omega arith)
stretch-tells {A} (suc n) from f g e j le lt = by (λ k. stretch-tells n (suc from) f g (ap rest_of e) j k (omega arith)) (from == j) refl
  where
    apart : (a b : ℕ) → a ≤ b → (a ≡ b → ⊥) → suc a ≤ b
    apart a b le ne = omega arith

    by : (suc from ≤ j → f j ≡ g j) → (b : Bool) → (from == j) ≡ b → f j ≡ g j
    by later true s = subst (λ k. f k ≡ g k) (eqb-true from j s) (ap (head_or (f from)) e)
    by later false s = later (apart from j le (eqb-false from j s))

-- ---- sums

-- the sum of the first n values
abbrev pub sum_to : ℕ → (ℕ → ℤ) → ℤ
sum_to zero f = pos 0
sum_to (suc n) f = sum_to n f +ℤ f n

-- of so many from one on
abbrev pub sum_from : ℕ → ℕ → (ℕ → ℤ) → ℤ
sum_from from zero f = pos 0
sum_from from (suc n) f = f from +ℤ sum_from (suc from) n f

sum_from-last : (n from : ℕ) (f : ℕ → ℤ) → sum_from from (suc n) f ≡ sum_from from n f +ℤ f (from + n)
sum_from-last zero from f =
    let a : from ≡ from + zero = omega arith in
    ap (λ k. f k +ℤ pos 0) a ∙ turned (f (from + zero))
  where
    turned : (a : ℤ) → a +ℤ pos 0 ≡ pos 0 +ℤ a
    turned a = omega (arith, ints)
sum_from-last (suc n) from f =
    let a : suc from + n ≡ from + suc n = omega arith in
    ap (λ z. f from +ℤ z) (sum_from-last n (suc from) f ∙ ap (λ k. sum_from (suc from) n f +ℤ f k) a) ∙ turned (f from) (sum_from (suc from) n f) (f (from + suc n))
  where
    turned : (a b c : ℤ) → a +ℤ (b +ℤ c) ≡ (a +ℤ b) +ℤ c
    turned a b c = omega (arith, ints)

sum_is : (n : ℕ) (f : ℕ → ℤ) → sum_from 0 n f ≡ sum_to n f
sum_is zero f = refl
sum_is (suc n) f =
    let a : 0 + n ≡ n = omega arith in
    sum_from-last n 0 f ∙ ap (λ k. sum_from 0 n f +ℤ f k) a ∙ ap (λ z. z +ℤ f n) (sum_is n f)

sum_same : (n : ℕ) (f g : ℕ → ℤ) → ((j : ℕ) → j < n → f j ≡ g j) → sum_to n f ≡ sum_to n g
sum_same zero f g same = refl
sum_same (suc n) f g same =
    ap (λ z. z +ℤ f n) (sum_same n f g (λ j lt. same j (omega arith))) ∙ ap (λ z. sum_to n g +ℤ z) (same n (omega arith))

-- ---- the value of a form by the coefficients of the counters

-- the first n values, and 0 for the others
abbrev first_values : ℕ → (ℕ → ℤ) → ℕ → ℤ
first_values zero f = λ j. pos 0
first_values (suc n) f = with_value (first_values n f) n (f n)

first_other : (n : ℕ) (f : ℕ → ℤ) (j : ℕ) → n ≤ j → first_values n f j ≡ pos 0
first_other zero f j le = refl
first_other (suc n) f j le = with_value-other (first_values n f) n (f n) j (λ e. omega arith) ∙ first_other n f j (omega arith)

first_own : (n : ℕ) (f : ℕ → ℤ) (j : ℕ) → j < n → first_values n f j ≡ f j
first_own zero f j lt = absurd (omega arith)
first_own (suc n) f j lt = by (λ k. first_own n f j k) (j == n) refl
  where
    below : (a b : ℕ) → a < suc b → (a ≡ b → ⊥) → a < b
    below a b lt ne = omega arith

    by : (j < n → first_values n f j ≡ f j) → (b : Bool) → (j == n) ≡ b → with_value (first_values n f) n (f n) j ≡ f j
    by rest true e = with_value-same (first_values n f) n (f n) j (eqb-true j n e) ∙ ap f (sym (eqb-true j n e))
    by rest false e = with_value-other (first_values n f) n (f n) j (eqb-false j n e) ∙ rest (below j n lt (eqb-false j n e))

no_sum : (ts : List Term) → term_sum ts (λ j. pos 0) ≡ pos 0
no_sum [] = refl
no_sum (t ∷ ts) = ap (λ z. t.coefficient *ℤ pos 0 +ℤ z) (no_sum ts) ∙ nothing t.coefficient
  where
    nothing : (a : ℤ) → a *ℤ pos 0 +ℤ pos 0 ≡ pos 0
    nothing a = omega (arith, ints)

first_sum : (n : ℕ) (ts : List Term) (f : ℕ → ℤ) → IsCanonical ts → term_sum ts (first_values n f) ≡ sum_to n (λ j. coefficient_at ts j *ℤ f j)
first_sum zero ts f canonical = no_sum ts
first_sum (suc n) ts f canonical =
    let before = first_values n f in
    let without : term_sum ts (with_value before n (pos 0)) ≡ term_sum (terms_without n ts) before +ℤ coefficient_at ts n *ℤ pos 0 = term_sum-with_value ts before n (pos 0) canonical in
    let unchanged : term_sum ts (with_value before n (pos 0)) ≡ term_sum ts before = term_sum-agree ts (with_value before n (pos 0)) before (λ i d lt. none_there (get_or ts i d).variable.0) in
    term_sum-with_value ts before n (f n) canonical
    ∙ ap (λ z. z +ℤ coefficient_at ts n *ℤ f n) (same_rest (term_sum (terms_without n ts) before) (coefficient_at ts n) (term_sum ts before) (sym without ∙ unchanged))
    ∙ ap (λ z. z +ℤ coefficient_at ts n *ℤ f n) (first_sum n ts f canonical)
  where
    same_rest : (a c b : ℤ) → a +ℤ c *ℤ pos 0 ≡ b → a ≡ b
    same_rest a c b e = omega (arith, ints)

    none_there : (j : ℕ) → with_value (first_values n f) n (pos 0) j ≡ first_values n f j
    none_there j = by (j == n) refl
      where
        by : (b : Bool) → (j == n) ≡ b → with_value (first_values n f) n (pos 0) j ≡ first_values n f j
        by true e = with_value-same (first_values n f) n (pos 0) j (eqb-true j n e) ∙ sym (first_other n f j (at_least n j (eqb-true j n e)))
          where
            at_least : (a b : ℕ) → b ≡ a → a ≤ b
            at_least a b e = omega arith
        by false e = with_value-other (first_values n f) n (pos 0) j (eqb-false j n e)

pub value_by : (n : ℕ) (g : Affine) (f : ℕ → ℤ) → IsCanonical g.terms → All (λ t. t.variable.0 < n) g.terms
    → value g f ≡ g.constant +ℤ sum_to n (λ j. coefficient_at g.terms j *ℤ f j)
value_by n g f canonical below =
    ap (λ z. g.constant +ℤ z)
    (sym (term_sum-agree g.terms (first_values n f) f (λ i d lt. first_own n f (get_or g.terms i d).variable.0 (below i d lt))) ∙ first_sum n g.terms f canonical)

-- forms in counters are canonical
adds_canonical : (levels : List EnclosingLoop) (f : Affine) (ts : List Term) (g : Affine) → Adds levels f ts g → IsCanonical f.terms → IsCanonical g.terms
adds_canonical levels f [] g none_left h = h
adds_canonical levels f (t ∷ ts) g (one_more {p = p} at fits more rest) h =
    adds_canonical levels (sum_form f (multiple_form p t.coefficient)) ts g rest (IsCanonical-with_multiple (pos 1) (multiple_form p t.coefficient).terms f.terms h)

pub in_counters_canonical : (levels : List EnclosingLoop) (f g : Affine) → InCounters levels f g → IsCanonical g.terms
in_counters_canonical levels f g h = adds_canonical levels (constant_form f.constant) f.terms g h tt

-- ---- the sum of coefficients and counters

pub coefficients_are : (n : ℕ) (g : Affine) → coefficients n g ≡ stretch 0 n (coefficient_at g.terms)
coefficients_are zero g = refl
coefficients_are (suc n) g =
    let a : n ≡ 0 + n = omega arith in
    ap (λ xs. xs ++ (coefficient_at g.terms n ∷ [])) (coefficients_are n g)
    ∙ ap (λ k. stretch 0 n (coefficient_at g.terms) ++ (coefficient_at g.terms k ∷ [])) a
    ∙ sym (stretch-last n 0 (coefficient_at g.terms))

counter_sum_is : (n from : ℕ) (c : ℕ → ℤ) (k : ℕ → ℕ) → counter_sum (stretch from n c) (stretch from n k) ≡ sum_from from n (λ j. c j *ℤ pos (k j))
counter_sum_is zero from c k = refl
counter_sum_is (suc n) from c k = ap (λ z. c from *ℤ pos (k from) +ℤ z) (counter_sum_is n (suc from) c k)

-- at counters that are natural numbers, the value of a form is that of its coefficients
pub counted_value : (n : ℕ) (g : Affine) (f : ℕ → ℤ) (k : ℕ → ℕ) → IsCanonical g.terms → All (λ t. t.variable.0 < n) g.terms → ((j : ℕ) → j < n → f j ≡ pos (k j))
    → g.constant +ℤ counter_sum (coefficients n g) (stretch 0 n k) ≡ value g f
counted_value n g f k canonical below natural =
    ap (λ z. g.constant +ℤ z)
    (ap (λ cs. counter_sum cs (stretch 0 n k)) (coefficients_are n g)
    ∙ counter_sum_is n 0 (coefficient_at g.terms) k
    ∙ sum_is n (λ j. coefficient_at g.terms j *ℤ pos (k j))
    ∙ sum_same n (λ j. coefficient_at g.terms j *ℤ pos (k j)) (λ j. coefficient_at g.terms j *ℤ f j) (λ j lt. ap (λ z. coefficient_at g.terms j *ℤ z) (sym (natural j lt))))
    ∙ sym (value_by n g f canonical below)
