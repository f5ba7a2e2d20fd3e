-- Bounds and subscripts that are linear in the variables of loops, and the affine forms that they stand for. (OpenMP 5.2, 4.4.1)
use Rattle.std.specs.Prelude.{◌^◌, Bool, true, false, ◌&&◌, ◌==◌, nat_le, unsigned_abs, ℤ, pos, negsuc, List, [], ◌∷◌, length, if◌then◌else◌, Option, Some, None, option_and_then, is_some}
use Rattle.semantics.specs.Tree.{Variable, Negate, Complement, BinaryOp, Plus, Minus, Times, Expr, Literal, Constant, Object, Unary, Binary, Conditional, Exprs, no_exprs, more_exprs}
use Rattle.semantics.specs.Meaning.Value.{both_then}
use Rattle.affine.specs.declared.term.Term.{Term}
use Rattle.affine.specs.declared.interval.Side.{Side}
use Rattle.affine.specs.Affine.{Affine}
use Rattle.affine.specs.Arithmetic.{constant_form, variable_form, sum_form, multiple_form, plus_multiple}

-- the numbers of a form as the text may have it
abbrev pub is_small : ℤ → Bool
is_small n = nat_le (unsigned_abs n) (2 ^ 32)

abbrev pub are_small : List Term → Bool
are_small [] = true
are_small (t ∷ ts) = is_small t.coefficient && are_small ts

-- a form whose numbers are within 2^32 in absolute value, with at most 32 variables
abbrev pub kept : Affine → Option Affine
kept f = if is_small f.constant && are_small f.terms && nat_le (length f.terms) 32 then Some f else None

-- the variables that a box gives values are those of the loops round a place
abbrev pub is_counter : List Side → Variable → Bool
is_counter [] x = false
is_counter (s ∷ ss) x = if s.variable.0 == x then true else is_counter ss x

-- no variable stands in an expression that is affine
abbrev pub is_number : Expr → Bool
is_number (Literal n suffix) = true
is_number (Constant name n) = true
is_number (Object x is) = false
is_number (Unary op a) = is_number a
is_number (Binary op a b) = is_number a && is_number b
is_number (Conditional c a b) = false

-- a product, of which one factor mentions no variable
abbrev pub product : Bool → Bool → Affine → Affine → Option Affine
product true b f g = kept (multiple_form g f.constant)
product false true f g = kept (multiple_form f g.constant)
product false false f g = None

-- the loop variable that a name without subscripts is
abbrev pub variable_form_in : List Side → Variable → Exprs → Option Affine
variable_form_in box x no_exprs = if is_counter box x then Some (variable_form x) else None
variable_form_in box x (more_exprs i is) = None

-- `+ - *` of two forms
abbrev pub operated : BinaryOp → Bool → Bool → Affine → Affine → Option Affine
operated Plus a b f g = kept (sum_form f g)
operated Minus a b f g = kept (plus_multiple f (negsuc 0) g)
operated Times a b f g = product a b f g
operated _ a b f g = None

-- the form of an expression inside the loops of a box: of a literal, an enum constant, a variable of these loops, and of + - * and unary minus of such; each form on the way is kept
abbrev pub form_of : List Side → Expr → Option Affine
form_of box (Literal n suffix) = kept (constant_form (pos n))
form_of box (Constant name n) = kept (constant_form (pos n))
form_of box (Object x is) = variable_form_in box x is
form_of box (Unary Negate a) = option_and_then (λ f. kept (multiple_form f (negsuc 0))) (form_of box a)
form_of box (Unary Complement a) = None
form_of box (Binary op a b) = both_then (operated op (is_number a) (is_number b)) (form_of box a) (form_of box b)
form_of box (Conditional c a b) = None

-- each subscript is affine (OpenMP 5.2, 4.4.1)
abbrev pub are_affine : List Side → Exprs → Bool
are_affine box no_exprs = true
are_affine box (more_exprs e es) = is_some (form_of box e) && are_affine box es
