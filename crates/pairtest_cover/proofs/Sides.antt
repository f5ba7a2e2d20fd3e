-- Both sides of a dimension at a distance.
use Rattle.std.proofs.Common.{◌≡◌, ◌≢◌, ◌↔◌, ℕ, ℤ, pos, negsuc, zero, suc, ◌*◌, ◌≤◌, ◌^◌, ◌-ℤ◌, ◌*ℤ◌, int_div, unsigned_abs, FitsSigned, List, [], ◌∷◌, map, length, get_or, ◌&&◌, ◌<◌, Bool, true, false, not, nat_eq, Option, Some, None, SomeIff, refl, sym, ap, ◌∙◌, subst, arith, mul-le-mul_right, one-mul}
use mir.Syntax.{Width, w64, w128}
use mir.Val.{SFits, of_z, to_z}
use Rattle.std.specs.Int.{CanDivide}
use Rattle.std.proofs.lemmas.Int.{to_z-of_z, fits_signed_from_abs, unsigned_abs-mul}
use Rattle.std.proofs.lemmas.Bool.Decides.{Decides-eqb}
use Rattle.std.specs.List.{All, Any}
use Rattle.pairtest.specs.declared.access.Access.{Access}
use Rattle.pairtest.specs.declared.access.Nest.{Nest}
use Rattle.pairtest.specs.DirectionVectors.{dimensions}
use Rattle.pairtest_cover.specs.Covered.{StandsIn, IsEqualAt, IsApart}
use Rattle.pairtest_cover.proofs.Zipped.{both_hold}
use Rattle.pairtest_cover.proofs.Products.{grouped, product-some, quotient, size-some}

-- the bits tell whether two numbers are one
pub bits_decide : (w : Width) (a b : ℤ) → SFits w a → SFits w b → (nat_eq (of_z w a) (of_z w b) ≡ true) ↔ (a ≡ b)
bits_decide w a b f g = (
  λ t. sym (to_z-of_z w a f) ∙ ap (to_z w) ((Decides-eqb (of_z w a) (of_z w b)).0 t) ∙ to_z-of_z w b g,
  λ e. (Decides-eqb (of_z w a) (of_z w b)).1 (ap (of_z w) e),
)

-- not a product that passes the limit
pub equal_decided : (k step times a b p far wanted : ℤ) (t : Bool) → p ≡ k *ℤ step → far ≡ p *ℤ times → wanted ≡ a -ℤ b → k ≢ pos 0 → ((t ≡ true) ↔ (far ≡ wanted))
    → (t ≡ true) ↔ (k ≢ pos 0 → k *ℤ (times *ℤ step) ≡ a -ℤ b)
equal_decided k step times a b p far wanted t is reach right some d =
    let there : k *ℤ (times *ℤ step) ≡ far = grouped k times step ∙ ap (λ (z : ℤ). z *ℤ times) (sym is) ∙ sym reach in (
      λ e n. there ∙ d.0 e ∙ right,
      λ h. d.1 (sym there ∙ h some ∙ sym right),
    )

pub never_equal : (k step times a b p wanted : ℤ) → p ≡ k *ℤ step → wanted ≡ a -ℤ b → k ≢ pos 0 → SFits w128 wanted → ¬ (FitsSigned w128 (p *ℤ times))
    → (false ≡ true) ↔ (k ≢ pos 0 → k *ℤ (times *ℤ step) ≡ a -ℤ b)
never_equal k step times a b p wanted is right some fits past = (
  λ (t : false ≡ true). absurd cc,
  λ h. absurd (past (subst (SFits w128) (right ∙ sym (h some) ∙ grouped k times step ∙ ap (λ (z : ℤ). z *ℤ times) (sym is)) fits)),
)

-- ---- quotients

some_bits : (z : ℤ) → z ≢ pos 0 → unsigned_abs z ≤ 2 ^ 126 → 0 < of_z w128 z
some_bits (pos zero) n h = absurd (n refl)
some_bits (pos (suc z)) n h = omega arith
some_bits (negsuc z) n h = omega (arith, h)

-- a factor is not greater than the product
factor_small : (c m b : ℤ) → c ≢ pos 0 → c *ℤ m ≡ b → unsigned_abs m ≤ unsigned_abs b
factor_small c m b n e =
    let size : unsigned_abs b ≡ unsigned_abs c * unsigned_abs m = sym (ap unsigned_abs e) ∙ unsigned_abs-mul c m in
    let least : 1 * unsigned_abs m ≤ unsigned_abs c * unsigned_abs m = mul-le-mul_right (unsigned_abs m) (size-some c n) in
    let one : 1 * unsigned_abs m ≡ unsigned_abs m = one-mul (unsigned_abs m) in
    omega (arith, size, least, one)

-- what a division gives where a dimension is equal so many steps apart
pub divided : (k step m a b p wanted : ℤ) (o : Option ℤ) → p ≡ k *ℤ step → wanted ≡ a -ℤ b → unsigned_abs p ≤ 2 ^ 126 → unsigned_abs wanted ≤ 2 ^ 64 → k ≢ pos 0 → step ≢ pos 0
    → SomeIff o (CanDivide w128 wanted p) (int_div wanted p) → k *ℤ (m *ℤ step) ≡ a -ℤ b → o ≡ Some m
divided k step m a b p wanted o is right small less some moves h e = go o h
  where
    there : p *ℤ m ≡ wanted
    there = ap (λ (z : ℤ). z *ℤ m) is ∙ sym (grouped k m step) ∙ e ∙ sym right

    not_none : p ≢ pos 0
    not_none q = product-some k step some moves (sym is ∙ q)

    gives : int_div wanted p ≡ m
    gives = quotient p m wanted not_none there

    fits : FitsSigned w128 (int_div wanted p)
    fits = subst (FitsSigned w128) (sym gives) (fits_signed_from_abs w128 m (let f = factor_small p m wanted not_none there in omega (arith, f, less)))

    go : (o : Option ℤ) → SomeIff o (CanDivide w128 wanted p) (int_div wanted p) → o ≡ Some m
    go None g = absurd (g (some_bits p not_none small, fits))
    go (Some q) g = ap Some (g.1 ∙ gives)

pub divided_read : (k step m a b p wanted p' wanted' : ℤ) (o : Option ℤ) → p' ≡ p → wanted' ≡ wanted → p ≡ k *ℤ step → wanted ≡ a -ℤ b → unsigned_abs p ≤ 2 ^ 126 → unsigned_abs wanted ≤ 2 ^ 64
    → k ≢ pos 0 → step ≢ pos 0 → SomeIff o (CanDivide w128 wanted' p') (int_div wanted' p') → k *ℤ (m *ℤ step) ≡ a -ℤ b → o ≡ Some m
divided_read k step m a b p wanted p' wanted' o e f is right small less some moves h same =
    divided k step m a b p wanted o is right small less some moves
    (subst (λ (q : ℤ). SomeIff o (CanDivide w128 wanted q) (int_div wanted q)) e (subst (λ (w : ℤ). SomeIff o (CanDivide w128 w p') (int_div w p')) f h)) same

-- a product of numbers that are read back from bits
pub product_read : (k z step p : ℤ) → SFits w64 z → SFits w64 step → p ≡ to_z w64 (of_z w64 z) *ℤ to_z w64 (of_z w64 step) → z ≡ k → p ≡ k *ℤ step
product_read k z step p f g e is =
    e ∙ ap (λ (y : ℤ). y *ℤ to_z w64 (of_z w64 step)) (to_z-of_z w64 z f ∙ is) ∙ ap (λ (y : ℤ). k *ℤ y) (to_z-of_z w64 step g)

pub zero_read : (z : ℤ) → SFits w64 z → of_z w64 z ≡ 0 → z ≡ pos 0
zero_read z f e = sym (to_z-of_z w64 z f) ∙ ap (to_z w64) e

-- ---- where a counter stands

pub stands_decided : (z k : ℤ) → SFits w64 z → z ≡ k → (not (nat_eq (of_z w64 z) 0) ≡ true) ↔ (k ≢ pos 0)
stands_decided z k f e = go (nat_eq (of_z w64 z) 0) (bits_decide w64 z (pos 0) f (record { sfits = omega arith }))
  where
    go : (b : Bool) → ((b ≡ true) ↔ (z ≡ pos 0)) → (not b ≡ true) ↔ (k ≢ pos 0)
    go true h = (λ (t : false ≡ true). absurd cc, λ n. absurd (n (sym e ∙ h.0 refl)))
    go false h = (λ t q. let no : false ≡ true = h.1 (e ∙ q) in absurd cc, λ n. refl)

pub none_apart : {X : Type 0} (P : X → Type 0) (xs : List X) → All (λ x. ¬ (P x)) xs → ¬ (Any P xs)
none_apart P xs none (k, x, l, e, p) = none k x l (subst P (sym e) p)

pub apart_decided : (nest : Nest) (x y : Access) (k : ℕ) (far far' : ℤ) (b f : Bool) → far' ≡ far → ((b ≡ true) ↔ Any (λ d. StandsIn nest k d.0) (dimensions x y))
    → ((f ≡ true) ↔ All (λ d. StandsIn nest k d.0 → IsEqualAt nest k far' d.0 d.1) (dimensions x y)) → ((b && f) ≡ true) ↔ IsApart nest x y k far
apart_decided nest x y k far far' b f same h g = (λ t. let p = both.0 t in record { stands = p.0; equal = p.1 }, λ a. both.1 (a.stands, a.equal))
  where
    both : ((b && f) ≡ true) ↔ (Any (λ d. StandsIn nest k d.0) (dimensions x y) × All (λ d. StandsIn nest k d.0 → IsEqualAt nest k far d.0 d.1) (dimensions x y))
    both = both_hold b f h (subst (λ (z : ℤ). (f ≡ true) ↔ All (λ d. StandsIn nest k d.0 → IsEqualAt nest k z d.0 d.1) (dimensions x y)) same g)

-- an element behind a map
pub map_item : {A B : Type 0} (f : A → B) (xs : List A) (i : ℕ) (x : A) (y : B) → i < length xs → x ≡ get_or xs i x → y ≡ f x → y ≡ get_or (map f xs) i y
map_item f [] i x y l e g = absurd (omega (arith, l))
map_item f (z ∷ xs) zero x y l e g = g ∙ ap f e
map_item f (z ∷ xs) (suc i) x y l e g = map_item f xs i x y (omega (arith, l)) e g
