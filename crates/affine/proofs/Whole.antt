-- Whole numbers.
use Rattle.std.proofs.Common.{◌≡◌, ℕ, ℤ, ◌+◌, ◌*◌, ◌^◌, ◌<◌, ◌≤◌, ◌+ℤ◌, ◌*ℤ◌, unsigned_abs, arith, ap, FitsSigned}
use Rattle.std.proofs.lemmas.Int.{ints, fits_signed_from_abs}
use borrow.Author.Differences.{up, down, sum_is_lem, product_is}
use mir.Syntax.{w128}

-- a sum times a number
pub sum-times : (a b c : ℤ) → (a +ℤ b) *ℤ c ≡ a *ℤ c +ℤ b *ℤ c
sum-times a b c = omega (arith, ints, ap (λ (x : ℕ). x * up c) (sum_is_lem a b), ap (λ (x : ℕ). x * down c) (sum_is_lem a b))

-- a number times a sum
pub times-sum : (a b c : ℤ) → c *ℤ (a +ℤ b) ≡ c *ℤ a +ℤ c *ℤ b
times-sum a b c = omega (arith, ints, ap (λ (x : ℕ). x * up c) (sum_is_lem a b), ap (λ (x : ℕ). x * down c) (sum_is_lem a b))

-- a product of three, from the right
pub times-times : (a b c : ℤ) → (a *ℤ b) *ℤ c ≡ a *ℤ (b *ℤ c)
times-times a b c =
    let left = product_is a b in
    let right = product_is b c in
    omega (
      arith,
      ints,
      ap (λ (x : ℕ). x * up c) left.0,
      ap (λ (x : ℕ). x * down c) left.0,
      ap (λ (x : ℕ). x * up c) left.1,
      ap (λ (x : ℕ). x * down c) left.1,
      ap (λ (x : ℕ). up a * x) right.0,
      ap (λ (x : ℕ). down a * x) right.0,
      ap (λ (x : ℕ). up a * x) right.1,
      ap (λ (x : ℕ). down a * x) right.1,
    )

pub unsigned_abs-sum : (a b : ℤ) → unsigned_abs (a +ℤ b) ≤ unsigned_abs a + unsigned_abs b
unsigned_abs-sum a b = omega (arith, ints)

-- one more of at most 64 products
pub one_more : (a b : ℤ) (i : ℕ) → i < 64 → unsigned_abs a ≤ 2 ^ 62 + i * 2 ^ 95 → unsigned_abs b ≤ 2 ^ 95
    → FitsSigned w128 (a +ℤ b) × (unsigned_abs (a +ℤ b) ≤ 2 ^ 62 + (i + 1) * 2 ^ 95)
one_more a b i l p q =
    let sum = unsigned_abs-sum a b in
    (fits_signed_from_abs w128 (a +ℤ b) (omega arith), omega arith)
