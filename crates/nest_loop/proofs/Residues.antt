-- Numbers below 2^64 as residues of whole numbers.
use Rattle.std.proofs.Common.{◌≡◌, ℕ, ℤ, pos, negsuc, ◌+◌, ◌-◌, ◌*◌, ◌/◌, ◌%◌, ◌^◌, ◌<◌, ◌+ℤ◌, ◌*ℤ◌, ◌≤ℤ◌, ◌<ℤ◌, ap, arith}
use Rattle.std.proofs.lemmas.Int.{ints}
use Rattle.std.proofs.Math.Nat.{div-add-mod', mod-lt}
use borrow.Author.Differences.{up, down, product_is}

-- a number below 2^64 differs from a whole number by a multiple of 2^64
pub record IsResidue (n : ℕ) (z : ℤ) : Type 0 where
  pub over : ℕ
  pub under : ℕ
  pub is : z +ℤ pos (under * 2 ^ 64) ≡ pos (n + over * 2 ^ 64)
  pub below : n < 2 ^ 64

-- what is left of a natural number
rest : (n : ℕ) → n / 2 ^ 64 * 2 ^ 64 + n % 2 ^ 64 ≡ n
rest n = div-add-mod' n (2 ^ 64)

pub residue_of : (n : ℕ) → n < 2 ^ 64 → IsResidue n (pos n)
residue_of n h = record { over = 0; under = 0; is = omega (arith, ints); below = h }

-- the residue of a number that differs by a multiple of 2^64
pub reduced : (m : ℕ) (z : ℤ) (j k : ℕ) → z +ℤ pos (j * 2 ^ 64) ≡ pos (m + k * 2 ^ 64) → IsResidue (m % 2 ^ 64) z
reduced m z j k e =
    let r = rest m in
    record { over = k + m / 2 ^ 64; under = j; is = omega (arith, ints); below = mod-lt m (omega arith) }

pub residue_sum : (m n : ℕ) (a b : ℤ) → IsResidue m a → IsResidue n b → IsResidue ((m + n) % 2 ^ 64) (a +ℤ b)
residue_sum m n a b p q =
    let e = p.is in let f = q.is in
    reduced (m + n) (a +ℤ b) (p.under + q.under) (p.over + q.over) (omega (arith, ints))

pub residue_less : (m n : ℕ) (a b : ℤ) → IsResidue m a → IsResidue n b → IsResidue ((m + 2 ^ 64 - n) % 2 ^ 64) (a +ℤ negsuc 0 *ℤ b)
residue_less m n a b p q =
    let e = p.is in let f = q.is in let small = q.below in
    reduced (m + 2 ^ 64 - n) (a +ℤ negsuc 0 *ℤ b) (1 + p.under + q.over) (p.over + q.under) (omega (arith, ints))

pub residue_negated : (m : ℕ) (a : ℤ) → IsResidue m a → IsResidue ((2 ^ 64 - m) % 2 ^ 64) (a *ℤ negsuc 0)
residue_negated m a p =
    let e = p.is in let small = p.below in
    reduced (2 ^ 64 - m) (a *ℤ negsuc 0) (1 + p.over) p.under (omega (arith, ints))

pub residue_product : (m n : ℕ) (a b : ℤ) → IsResidue m a → IsResidue n b → IsResidue ((m * n) % 2 ^ 64) (a *ℤ b)
residue_product m n a b p q =
    let e : up a + p.under * 2 ^ 64 ≡ down a + (m + p.over * 2 ^ 64) = omega (arith, ints, p.is) in
    let f : up b + q.under * 2 ^ 64 ≡ down b + (n + q.over * 2 ^ 64) = omega (arith, ints, q.is) in
    let once = ap (λ (x : ℕ). x * n) e in
    let above = ap (λ (x : ℕ). up a * x) f in
    let below = ap (λ (x : ℕ). down a * x) f in
    let parts = product_is a b in
    reduced (m * n) (a *ℤ b) (p.under * n + q.under * up a + q.over * down a) (p.over * n + q.over * up a + q.under * down a)
    (omega (arith, ints, parts.0, parts.1, once, above, below))

-- a whole number of 0..2^64 - 1 is its own residue
pub residue_is : (n : ℕ) (z : ℤ) → IsResidue n z → pos 0 ≤ℤ z → z <ℤ pos (2 ^ 64) → z ≡ pos n
residue_is n z p low high = let e = p.is in let small = p.below in omega (arith, ints)
