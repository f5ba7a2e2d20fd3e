-- Products of whole numbers, and their quotients.
use Rattle.std.proofs.Common.{◌≡◌, ◌≢◌, ℕ, ℤ, pos, negsuc, zero, suc, ◌*◌, ◌<◌, ◌≤◌, ◌+ℤ◌, ◌-ℤ◌, ◌*ℤ◌, neg_ℤ, int_div, int_rem, unsigned_abs, refl, sym, ap, ◌∙◌, subst, arith, mul-pos, mul-le-mul_left, mul-one}
use Rattle.std.proofs.lemmas.Int.{ints, quot-rem, rem_below, unsigned_abs-mul}
use lib.IntN.{*ℤ_comm}
use Rattle.pairtest.proofs.Solutions.{sum-times, times-sum, times-one, zero-times}

pub times-difference : (a b c : ℤ) → c *ℤ (a -ℤ b) +ℤ c *ℤ b ≡ c *ℤ a
times-difference a b c = sym (times-sum (a -ℤ b) b c) ∙ ap (λ (z : ℤ). c *ℤ z) (omega (arith, ints))

pub times-zero : (c : ℤ) → c *ℤ pos 0 ≡ pos 0
times-zero c = omega (arith, ints)

size-none : (a : ℤ) → unsigned_abs a ≡ 0 → a ≡ pos 0
size-none (pos a) e = ap pos e
size-none (negsuc a) e = absurd (omega (arith, e))

pub size-some : (a : ℤ) → a ≢ pos 0 → 0 < unsigned_abs a
size-some (pos zero) n = absurd (n refl)
size-some (pos (suc a)) n = omega arith
size-some (negsuc a) n = omega arith

-- a product of numbers that are not 0 is not 0
pub product-some : (a b : ℤ) → a ≢ pos 0 → b ≢ pos 0 → a *ℤ b ≢ pos 0
product-some a b n m e =
    let size : unsigned_abs (a *ℤ b) ≡ unsigned_abs a * unsigned_abs b = unsigned_abs-mul a b in
    let none : unsigned_abs (a *ℤ b) ≡ 0 = ap unsigned_abs e in
    let some : 0 < unsigned_abs a * unsigned_abs b = mul-pos (size-some a n) (size-some b m) in
    omega (arith, size, none, some)

-- from a product with a number that is not 0 the other number is known
pub same-factor : (c a b : ℤ) → c ≢ pos 0 → c *ℤ a ≡ c *ℤ b → a ≡ b
same-factor c a b n e = go (a -ℤ b) refl (times-difference a b c)
  where
    go : (d : ℤ) → d ≡ a -ℤ b → c *ℤ d +ℤ c *ℤ b ≡ c *ℤ a → a ≡ b
    go (pos zero) is f = omega (arith, ints, is)
    go (pos (suc d)) is f = absurd (product-some c (pos (suc d)) n (λ (q : pos (suc d) ≡ pos 0). absurd cc) (none (c *ℤ pos (suc d)) (c *ℤ b) (c *ℤ a) f e))
      where
        none : (x y z : ℤ) → x +ℤ y ≡ z → z ≡ y → x ≡ pos 0
        none x y z p q = omega (arith, ints, p, q)
    go (negsuc d) is f = absurd (product-some c (negsuc d) n (λ (q : negsuc d ≡ pos 0). absurd cc) (none (c *ℤ negsuc d) (c *ℤ b) (c *ℤ a) f e))
      where
        none : (x y z : ℤ) → x +ℤ y ≡ z → z ≡ y → x ≡ pos 0
        none x y z p q = omega (arith, ints, p, q)

-- ---- three factors

grouped_up : (c d : ℤ) (n : ℕ) → c *ℤ (pos n *ℤ d) ≡ (c *ℤ d) *ℤ pos n
grouped_up c d zero = ap (λ (z : ℤ). c *ℤ z) (zero-times d) ∙ times-zero c ∙ sym (times-zero (c *ℤ d))
grouped_up c d (suc n) =
    let more : pos (suc n) ≡ pos n +ℤ pos 1 = omega (arith, ints) in
    let one : pos 1 *ℤ d ≡ d = *ℤ_comm (pos 1) d ∙ times-one d in
    ap (λ (z : ℤ). c *ℤ (z *ℤ d)) more
    ∙ ap (λ (z : ℤ). c *ℤ z) (sum-times (pos n) (pos 1) d ∙ ap (λ (z : ℤ). pos n *ℤ d +ℤ z) one)
    ∙ times-sum (pos n *ℤ d) d c
    ∙ ap (λ (z : ℤ). z +ℤ c *ℤ d) (grouped_up c d n)
    ∙ ap (λ (z : ℤ). (c *ℤ d) *ℤ pos n +ℤ z) (sym (times-one (c *ℤ d)))
    ∙ sym (times-sum (pos n) (pos 1) (c *ℤ d))
    ∙ ap (λ (z : ℤ). (c *ℤ d) *ℤ z) (sym more)

-- the second of two numbers that add up to nothing with the first
opposite : (a b : ℤ) → a +ℤ b ≡ pos 0 → b ≡ neg_ℤ a
opposite a b e = omega (arith, ints, e)

pub grouped : (c m d : ℤ) → c *ℤ (m *ℤ d) ≡ (c *ℤ d) *ℤ m
grouped c (pos n) d = grouped_up c d n
grouped c (negsuc n) d =
    let none : pos (suc n) +ℤ negsuc n ≡ pos 0 = omega (arith, ints) in
    let inside : pos (suc n) *ℤ d +ℤ negsuc n *ℤ d ≡ pos 0 = sym (sum-times (pos (suc n)) (negsuc n) d) ∙ ap (λ (z : ℤ). z *ℤ d) none ∙ zero-times d in
    let left : c *ℤ (pos (suc n) *ℤ d) +ℤ c *ℤ (negsuc n *ℤ d) ≡ pos 0 =
    sym (times-sum (pos (suc n) *ℤ d) (negsuc n *ℤ d) c) ∙ ap (λ (z : ℤ). c *ℤ z) inside ∙ times-zero c in
    let right : (c *ℤ d) *ℤ pos (suc n) +ℤ (c *ℤ d) *ℤ negsuc n ≡ pos 0 =
    sym (times-sum (pos (suc n)) (negsuc n) (c *ℤ d)) ∙ ap (λ (z : ℤ). (c *ℤ d) *ℤ z) none ∙ times-zero (c *ℤ d) in
    opposite (c *ℤ (pos (suc n) *ℤ d)) (c *ℤ (negsuc n *ℤ d)) left
    ∙ ap neg_ℤ (grouped_up c d (suc n))
    ∙ sym (opposite ((c *ℤ d) *ℤ pos (suc n)) ((c *ℤ d) *ℤ negsuc n) right)

-- ---- quotients

-- the quotient of a multiple
pub quotient : (c m b : ℤ) → c ≢ pos 0 → c *ℤ m ≡ b → int_div b c ≡ m
quotient c m b n e =
    let q : ℤ = int_div b c in
    let r : ℤ = int_rem b c in
    let whole : q *ℤ c +ℤ r ≡ b = quot-rem b c in
    let apart : c *ℤ (m -ℤ q) +ℤ c *ℤ q ≡ c *ℤ m = times-difference m q c in
    let rest : c *ℤ (m -ℤ q) ≡ r = left (c *ℤ (m -ℤ q)) (c *ℤ q) (c *ℤ m) (q *ℤ c) r b apart (*ℤ_comm c q) e whole in
    let small : unsigned_abs r < unsigned_abs c = rem_below b c (size-some c n) in
    let size : unsigned_abs c * unsigned_abs (m -ℤ q) < unsigned_abs c = subst (λ (k : ℕ). k < unsigned_abs c) (sym (ap unsigned_abs rest) ∙ unsigned_abs-mul c (m -ℤ q)) small in
    let none : m -ℤ q ≡ pos 0 = size-none (m -ℤ q) (below (unsigned_abs c) (unsigned_abs (m -ℤ q)) size) in
    same m q none
  where
    left : (x y z w r b : ℤ) → x +ℤ y ≡ z → y ≡ w → z ≡ b → w +ℤ r ≡ b → x ≡ r
    left x y z w r b p s t u = omega (arith, ints, p, s, t, u)

    below : (k l : ℕ) → k * l < k → l ≡ 0
    below k zero h = refl
    below k (suc l) h =
        let more : k * 1 ≤ k * suc l = mul-le-mul_left k (omega arith) in
        let one : k * 1 ≡ k = mul-one k in
        absurd (omega (arith, more, one, h))

    same : (a b : ℤ) → a -ℤ b ≡ pos 0 → b ≡ a
    same a b e = omega (arith, ints, e)
