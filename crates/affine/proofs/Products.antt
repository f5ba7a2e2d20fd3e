-- Products and sums of whole numbers in 128 bits.
use Rattle.std.proofs.Common.{◌≡◌, ℕ, ℤ, pos, negsuc, ◌*◌, ◌^◌, ◌<◌, ◌≤◌, ◌+ℤ◌, ◌*ℤ◌, unsigned_abs, to_z, of_z, w64, FitsSigned, mul-le-mul, sym, ap, ◌∙◌, subst, arith}
use Rattle.std.proofs.lemmas.Int.{to_z-of_z, fits_signed_from_abs, fits_signed_mul, unsigned_abs-mul}
use mir.Syntax.{w128}
use Rattle.affine.proofs.Whole.{unsigned_abs-sum}

-- a number of 64 bits in absolute value
pub abs_within : (a : ℤ) → FitsSigned w64 a → unsigned_abs a ≤ 2 ^ 63
abs_within (pos n) h = omega (arith, h.sfits)
abs_within (negsuc n) h = omega (arith, h.sfits)

-- such a number in 128 bits is itself
abbrev pub wide : ℤ → ℤ
wide x = to_z w128 (of_z w128 x)

pub widened : (a x : ℤ) → FitsSigned w64 a → x ≡ to_z w64 (of_z w64 a) → wide x ≡ a
widened a x h e =
    let least = abs_within a h in
    ap wide (e ∙ to_z-of_z w64 a h) ∙ to_z-of_z w128 a (fits_signed_from_abs w128 a (omega arith))

times : (a b x y : ℤ) → x ≡ a → y ≡ b → x *ℤ y ≡ a *ℤ b
times a b x y p q = ap (λ (z : ℤ). z *ℤ y) p ∙ ap (λ (z : ℤ). a *ℤ z) q

-- a product of two of them, within these limits
module _ (a b x y : ℤ) (m n : ℕ) (f : FitsSigned w64 a) (g : FitsSigned w64 b) (p : unsigned_abs a ≤ m) (q : unsigned_abs b ≤ n) (h : m * n < 2 ^ 127) (d : x ≡ to_z w64 (of_z w64 a)) (e : y ≡ to_z w64 (of_z w64 b)) where
  same_product : wide x *ℤ wide y ≡ a *ℤ b
  same_product = times a b (wide x) (wide y) (widened a x f d) (widened b y g e)

  pub product_fits : FitsSigned w128 (wide x *ℤ wide y)
  product_fits = subst (λ (z : ℤ). FitsSigned w128 z) (sym same_product) (fits_signed_mul w128 a b m n p q h)

  pub product_is : wide (wide x *ℤ wide y) ≡ a *ℤ b
  product_is = to_z-of_z w128 (wide x *ℤ wide y) product_fits ∙ same_product

  pub product_within : unsigned_abs (wide (wide x *ℤ wide y)) ≤ m * n
  product_within =
      let whole : unsigned_abs (a *ℤ b) ≤ m * n = omega (arith, unsigned_abs-mul a b, mul-le-mul p q) in
      subst (λ (z : ℤ). unsigned_abs z ≤ m * n) (sym product_is) whole

-- a number of 64 bits and a product
module _ (a b c x y : ℤ) (f : FitsSigned w64 a) (g : FitsSigned w64 b) (h : FitsSigned w64 c) (d : x ≡ to_z w64 (of_z w64 a)) (e : y ≡ to_z w64 (of_z w64 b) *ℤ to_z w64 (of_z w64 c)) (l : unsigned_abs y ≤ 2 ^ 126) where
  same_sum : wide x +ℤ wide y ≡ a +ℤ b *ℤ c
  same_sum =
      let product : wide y ≡ b *ℤ c = to_z-of_z w128 y (fits_signed_from_abs w128 y (omega arith)) ∙ e ∙ times b c (to_z w64 (of_z w64 b)) (to_z w64 (of_z w64 c)) (to_z-of_z w64 b g) (to_z-of_z w64 c h) in
      ap (λ (z : ℤ). z +ℤ wide y) (widened a x f d) ∙ ap (λ (z : ℤ). a +ℤ z) product

  pub sum_fits : FitsSigned w128 (wide x +ℤ wide y)
  sum_fits =
      let first : unsigned_abs (wide x) ≤ 2 ^ 63 = subst (λ (z : ℤ). unsigned_abs z ≤ 2 ^ 63) (sym (widened a x f d)) (abs_within a f) in
      let second : unsigned_abs (wide y) ≤ 2 ^ 126 = subst (λ (z : ℤ). unsigned_abs z ≤ 2 ^ 126) (sym (to_z-of_z w128 y (fits_signed_from_abs w128 y (omega arith)))) l in
      let sum = unsigned_abs-sum (wide x) (wide y) in
      fits_signed_from_abs w128 (wide x +ℤ wide y) (omega arith)

  pub sum_is : wide (wide x +ℤ wide y) ≡ a +ℤ b *ℤ c
  sum_is = to_z-of_z w128 (wide x +ℤ wide y) sum_fits ∙ same_sum
