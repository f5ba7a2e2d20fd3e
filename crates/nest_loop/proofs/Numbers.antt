-- Forms on the way: what is kept, and the forms of expressions without variables.
use Rattle.std.specs.Prelude.{Bool, true, false, ◌&&◌, ◌≡◌, ◌≤◌, ◌^◌, ◌+ℤ◌, ℤ, pos, negsuc, unsigned_abs, nat_le, List, [], length, Option, Some, None, option_and_then}
use Rattle.std.proofs.Common.{refl, sym, ap, ◌∙◌, arith}
use Rattle.std.proofs.lemmas.Bool.{leb-true}
use Rattle.std.proofs.lemmas.Int.{ints}
use Rattle.std.proofs.lemmas.Option.{none-some, cond_some}
use Rattle.semantics.specs.Tree.{Variable, Negate, Complement, BinaryOp, Plus, Minus, Times, Divide, Remainder, BitAnd, BitOr, BitXor, ShiftLeft, ShiftRight, Expr, Literal, Constant, Object, Unary, Binary, Conditional}
use Rattle.semantics.specs.Meaning.Value.{both_then}
use Rattle.semantics.proofs.EraseTokenLaw.{first_of, second_of}
use Rattle.affine.specs.declared.term.Term.{Term}
use Rattle.affine.specs.declared.interval.Side.{Side}
use Rattle.affine.specs.Affine.{Affine, term_sum, value}
use Rattle.affine.specs.Arithmetic.{constant_form, with_multiple, plus_multiple, sum_form, multiple_form}
use Rattle.affine_expr.specs.Forms.{is_small, are_small, kept, is_number, product, operated, form_of}

-- what one step gives where the one before gave something
pub chained : {A B : Type 0} (f : A → Option B) (o : Option A) (y : B) → option_and_then f o ≡ Some y → (x : A) × (o ≡ Some x) × (f x ≡ Some y)
chained f None y e = absurd (none-some y e)
chained f (Some x) y e = (x, refl, e)

-- two that are both there, and what they give
pub record Joined {A B C : Type 0} (f : A → B → Option C) (o : Option A) (p : Option B) (y : C) : Type 0 where
  pub left : A
  pub right : B
  pub first : o ≡ Some left
  pub second : p ≡ Some right
  pub result : f left right ≡ Some y

pub joined : {A B C : Type 0} (f : A → B → Option C) (o : Option A) (p : Option B) (y : C) → both_then f o p ≡ Some y → Joined f o p y
joined f None p y e = absurd (none-some y e)
joined f (Some a) None y e = absurd (none-some y e)
joined f (Some a) (Some b) y e = record { left = a; right = b; first = refl; second = refl; result = e }

-- a form that is kept is the same, and its number is within 2^32
pub record IsKept (f g : Affine) : Type 0 where
  pub same : f ≡ g
  pub small : unsigned_abs f.constant ≤ 2 ^ 32

pub kept_is : (f g : Affine) → kept f ≡ Some g → IsKept f g
kept_is f g e =
    let parts = cond_some (is_small f.constant && are_small f.terms && nat_le (length f.terms) 32) f g e in
    let numbers = first_of (is_small f.constant && are_small f.terms) (nat_le (length f.terms) 32) parts.0 in
    record { same = parts.1; small = leb-true (unsigned_abs f.constant) (2 ^ 32) (first_of (is_small f.constant) (are_small f.terms) numbers) }

-- a form without terms is its number
pub number_value : (f : Affine) (values : Variable → ℤ) → f.terms ≡ [] → value f values ≡ f.constant
number_value f values e = ap (λ (ts : List Term). f.constant +ℤ term_sum ts values) e ∙ alone f.constant
  where
    alone : (a : ℤ) → a +ℤ pos 0 ≡ a
    alone a = omega (arith, ints)

plus_no_terms : (f g : Affine) (c : ℤ) → f.terms ≡ [] → g.terms ≡ [] → (plus_multiple f c g).terms ≡ []
plus_no_terms f g c e h = ap (λ (us : List Term). with_multiple c us f.terms) h ∙ e

kept_no_terms : (f g : Affine) → kept f ≡ Some g → f.terms ≡ [] → g.terms ≡ []
kept_no_terms f g e h = sym (ap (λ (a : Affine). a.terms) (kept_is f g e).same) ∙ h

product_no_terms : (p q : Bool) (f g h : Affine) → f.terms ≡ [] → g.terms ≡ [] → product p q f g ≡ Some h → h.terms ≡ []
product_no_terms true q f g h a b e = kept_no_terms (multiple_form g f.constant) h e (plus_no_terms (constant_form (pos 0)) g f.constant refl b)
product_no_terms false true f g h a b e = kept_no_terms (multiple_form f g.constant) h e (plus_no_terms (constant_form (pos 0)) f g.constant refl a)
product_no_terms false false f g h a b e = absurd (none-some h e)

operated_no_terms : (op : BinaryOp) (p q : Bool) (f g h : Affine) → f.terms ≡ [] → g.terms ≡ [] → operated op p q f g ≡ Some h → h.terms ≡ []
operated_no_terms Plus p q f g h a b e = kept_no_terms (sum_form f g) h e (plus_no_terms f g (pos 1) a b)
operated_no_terms Minus p q f g h a b e = kept_no_terms (plus_multiple f (negsuc 0) g) h e (plus_no_terms f g (negsuc 0) a b)
operated_no_terms Times p q f g h a b e = product_no_terms p q f g h a b e
operated_no_terms Divide p q f g h a b e = absurd (none-some h e)
operated_no_terms Remainder p q f g h a b e = absurd (none-some h e)
operated_no_terms BitAnd p q f g h a b e = absurd (none-some h e)
operated_no_terms BitOr p q f g h a b e = absurd (none-some h e)
operated_no_terms BitXor p q f g h a b e = absurd (none-some h e)
operated_no_terms ShiftLeft p q f g h a b e = absurd (none-some h e)
operated_no_terms ShiftRight p q f g h a b e = absurd (none-some h e)

-- where no variable stands, the form has no terms
pub number_terms : (box : List Side) (e : Expr) (f : Affine) → form_of box e ≡ Some f → is_number e ≡ true → f.terms ≡ []
number_terms box (Literal n suffix) f e h = kept_no_terms (constant_form (pos n)) f e refl
number_terms box (Constant name n) f e h = kept_no_terms (constant_form (pos n)) f e refl
number_terms box (Object x is) f e h = absurd cc
number_terms box (Unary Negate a) f e h =
    let c = chained (λ g. kept (multiple_form g (negsuc 0))) (form_of box a) f e in
    kept_no_terms (multiple_form c.0 (negsuc 0)) f c.2 (plus_no_terms (constant_form (pos 0)) c.0 (negsuc 0) refl (number_terms box a c.0 c.1 h))
number_terms box (Unary Complement a) f e h = absurd (none-some f e)
number_terms box (Binary op a b) f e h =
    let j = joined (operated op (is_number a) (is_number b)) (form_of box a) (form_of box b) f e in
    operated_no_terms op (is_number a) (is_number b) j.left j.right f
    (number_terms box a j.left j.first (first_of (is_number a) (is_number b) h))
    (number_terms box b j.right j.second (second_of (is_number a) (is_number b) h)) j.result
number_terms box (Conditional c a b) f e h = absurd (none-some f e)
