-- Expressions that have a form are linear, and their forms are kept.
use Rattle.std.specs.Prelude.{ℕ, ◌≡◌, Bool, true, false, ◌&&◌, List, [], ◌∷◌, Option, Some, None, pos, negsuc, option_and_then}
use Rattle.std.specs.Prelude.{zero, suc, get_or, is_some, ◌==◌, ◌<◌, ◌≤◌, length, ◌⊎◌, Result, IfErr}
use Rattle.std.specs.List.{list_any}
use Rattle.std.proofs.Common.{refl, sym, ap, ◌∙◌, subst, cond, arith, inl, inr, ⊎_elim}
use Rattle.ktree.specs.View.{exprs_of, expr_of}
use Rattle.ktree.specs.declared.place.Place.{Place}
use Rattle.ktree.specs.declared.expression.Expr as code
use Rattle.semantics.specs.Tree.{Variable, BinaryOp, Plus, Minus, Times, Divide, Remainder, BitAnd, BitOr, BitXor, ShiftLeft, ShiftRight, Negate, Complement, Expr, Literal, Constant, Object, Unary, Binary, Conditional, Exprs, no_exprs, more_exprs}
use Rattle.semantics.specs.Meaning.Value.{both_then}
use Rattle.affine.specs.declared.interval.Side.{Side}
use Rattle.affine.specs.Affine.{Affine}
use Rattle.affine.specs.Arithmetic.{constant_form, variable_form, sum_form, multiple_form, plus_multiple}
use Rattle.affine_expr.specs.Forms.{kept, is_counter, is_number, product, variable_form_in, operated, form_of, are_affine}
use Rattle.affine_expr.specs.Shapes.{shape_by, variable_shape, shape_of}
use Rattle.affine_expr.specs.declared.faults.Fault.{Fault}
use Rattle.affine_expr.specs.declared.faults.Fault.TheVariants.{Limit, OutOfMemory}
use Rattle.affine_expr.specs.Faults.{Stops}
use Rattle.affine_expr.proofs.Keeping.{kept-again}
use Rattle.ktree.proofs.Trees.{none_are}
use Rattle.affine_expr.proofs.Trees.{is_counter-any}

product_kept : (a b : Bool) (f g h : Affine) → product a b f g ≡ Some h → kept h ≡ Some h
product_kept true b f g h e = kept-again (multiple_form g f.constant) h e
product_kept false true f g h e = kept-again (multiple_form f g.constant) h e
product_kept false false f g h e = absurd (cc e)

operated_kept : (op : BinaryOp) (a b : Bool) (f g h : Affine) → operated op a b f g ≡ Some h → kept h ≡ Some h
operated_kept Plus a b f g h e = kept-again (sum_form f g) h e
operated_kept Minus a b f g h e = kept-again (plus_multiple f (negsuc 0) g) h e
operated_kept Times a b f g h e = product_kept a b f g h e
operated_kept Divide a b f g h e = absurd (cc e)
operated_kept Remainder a b f g h e = absurd (cc e)
operated_kept BitAnd a b f g h e = absurd (cc e)
operated_kept BitOr a b f g h e = absurd (cc e)
operated_kept BitXor a b f g h e = absurd (cc e)
operated_kept ShiftLeft a b f g h e = absurd (cc e)
operated_kept ShiftRight a b f g h e = absurd (cc e)

variable_kept : (box : List Side) (x : Variable) (is : Exprs) (h : Affine) → variable_form_in box x is ≡ Some h → kept h ≡ Some h
variable_kept box x (more_exprs i is) h e = absurd (cc e)
variable_kept box x no_exprs h e = by (is_counter box x) refl
  where
    by : (b : Bool) → is_counter box x ≡ b → kept h ≡ Some h
    by true k =
        let here : Some (variable_form x) ≡ Some h = sym (ap (λ (b : Bool). cond b (Some (variable_form x)) None) k) ∙ e in
        let same : variable_form x ≡ h = cc in
        subst (λ (f : Affine). kept f ≡ Some f) same refl
    by false k = let here : None ≡ Some h = sym (ap (λ (b : Bool). cond b (Some (variable_form x)) None) k) ∙ e in absurd (cc here)

negated_kept : (o : Option Affine) (h : Affine) → option_and_then (λ f. kept (multiple_form f (negsuc 0))) o ≡ Some h → kept h ≡ Some h
negated_kept None h e = absurd (cc e)
negated_kept (Some f) h e = kept-again (multiple_form f (negsuc 0)) h e

both_kept : (op : BinaryOp) (a b : Bool) (o p : Option Affine) (h : Affine) → both_then (operated op a b) o p ≡ Some h → kept h ≡ Some h
both_kept op a b None p h e = absurd (cc e)
both_kept op a b (Some f) None h e = absurd (cc e)
both_kept op a b (Some f) (Some g) h e = operated_kept op a b f g h e

-- a form that an expression has is kept: its numbers are within 2^32, and its variables at most 32
pub form_kept : (box : List Side) (e : Expr) (f : Affine) → form_of box e ≡ Some f → kept f ≡ Some f
form_kept box (Literal n suffix) f is = kept-again (constant_form (pos n)) f is
form_kept box (Constant name n) f is = kept-again (constant_form (pos n)) f is
form_kept box (Object x es) f is = variable_kept box x es f is
form_kept box (Unary Negate a) f is = negated_kept (form_of box a) f is
form_kept box (Unary Complement a) f is = absurd (cc is)
form_kept box (Binary op a b) f is = both_kept op (is_number a) (is_number b) (form_of box a) (form_of box b) f is
form_kept box (Conditional c a b) f is = absurd (cc is)

-- ---- shapes

product_shaped : (a b : Bool) (f g h : Affine) → product a b f g ≡ Some h → shape_by Times a b ≡ Some (a && b)
product_shaped true b f g h e = refl
product_shaped false true f g h e = refl
product_shaped false false f g h e = absurd (cc e)

operated_shaped : (op : BinaryOp) (a b : Bool) (f g h : Affine) → operated op a b f g ≡ Some h → shape_by op a b ≡ Some (a && b)
operated_shaped Plus a b f g h e = refl
operated_shaped Minus a b f g h e = refl
operated_shaped Times a b f g h e = product_shaped a b f g h e
operated_shaped Divide a b f g h e = absurd (cc e)
operated_shaped Remainder a b f g h e = absurd (cc e)
operated_shaped BitAnd a b f g h e = absurd (cc e)
operated_shaped BitOr a b f g h e = absurd (cc e)
operated_shaped BitXor a b f g h e = absurd (cc e)
operated_shaped ShiftLeft a b f g h e = absurd (cc e)
operated_shaped ShiftRight a b f g h e = absurd (cc e)

variable_shaped : (box : List Side) (x : Variable) (is : Exprs) (h : Affine) → variable_form_in box x is ≡ Some h → variable_shape box x is ≡ Some false
variable_shaped box x (more_exprs i is) h e = absurd (cc e)
variable_shaped box x no_exprs h e = by (is_counter box x) refl
  where
    by : (b : Bool) → is_counter box x ≡ b → variable_shape box x no_exprs ≡ Some false
    by true k = rw k refl
    by false k = let here : None ≡ Some h = sym (ap (λ (b : Bool). cond b (Some (variable_form x)) None) k) ∙ e in absurd (cc here)

negated_shaped : (o : Option Affine) (s : Option Bool) (n : Bool) (h : Affine) → ((f : Affine) → o ≡ Some f → s ≡ Some n)
    → option_and_then (λ f. kept (multiple_form f (negsuc 0))) o ≡ Some h → s ≡ Some n
negated_shaped None s n h k e = absurd (cc e)
negated_shaped (Some f) s n h k e = k f refl

both_shaped : (op : BinaryOp) (a b : Bool) (o p : Option Affine) (s t : Option Bool) (h : Affine) → ((f : Affine) → o ≡ Some f → s ≡ Some a) → ((f : Affine) → p ≡ Some f → t ≡ Some b)
    → both_then (operated op a b) o p ≡ Some h → both_then (shape_by op) s t ≡ Some (a && b)
both_shaped op a b None p s t h k l e = absurd (cc e)
both_shaped op a b (Some f) None s t h k l e = absurd (cc e)
both_shaped op a b (Some f) (Some g) s t h k l e = rw (k f refl, l g refl) (operated_shaped op a b f g h e)

-- an expression with a form is linear, and its shape is whether a variable stands in it
pub form_shaped : (box : List Side) (e : Expr) (f : Affine) → form_of box e ≡ Some f → shape_of box e ≡ Some (is_number e)
form_shaped box (Literal n suffix) f is = refl
form_shaped box (Constant name n) f is = refl
form_shaped box (Object x es) f is = variable_shaped box x es f is
form_shaped box (Unary Negate a) f is = negated_shaped (form_of box a) (shape_of box a) (is_number a) f (λ g h. form_shaped box a g h) is
form_shaped box (Unary Complement a) f is = absurd (cc is)
form_shaped box (Binary op a b) f is =
    both_shaped op (is_number a) (is_number b) (form_of box a) (form_of box b) (shape_of box a) (shape_of box b) f (λ g h. form_shaped box a g h) (λ g h. form_shaped box b g h) is
form_shaped box (Conditional c a b) f is = absurd (cc is)

none_found : {A : Type 0} (o : Option A) → ((a : A) → o ≡ Some a → ⊥) → o ≡ None
none_found None f = refl
none_found (Some a) f = absurd (f a refl)

-- one that is not linear has no form
pub shapeless : (box : List Side) (e : Expr) → shape_of box e ≡ None → form_of box e ≡ None
shapeless box e s = none_found (form_of box e) (λ f is. let shaped = form_shaped box e f is in cc)

-- ---- names

-- whether a box has a variable, as its sides tell
abbrev pub has : List Side → Variable → Bool
has box x = list_any (λ s. s.variable.0 == x) box

pub shape_there : (box : List Side) (x : Variable) (es : List code.Expr) → length es < 1 → has box x ≡ true → variable_shape box x (exprs_of es) ≡ Some false
shape_there box x es l h = rw (none_are es (omega arith), sym (is_counter-any box x) ∙ h) refl

pub shape_missing : (box : List Side) (x : Variable) (es : List code.Expr) → length es < 1 → has box x ≡ false → variable_shape box x (exprs_of es) ≡ None
shape_missing box x es l h = rw (none_are es (omega arith), sym (is_counter-any box x) ∙ h) refl

pub shape_subscripted : (box : List Side) (x : Variable) (es : List code.Expr) → 1 ≤ length es → variable_shape box x (exprs_of es) ≡ None
shape_subscripted box x [] l = absurd (omega arith)
shape_subscripted box x (e ∷ es) l = refl

pub form_there : (box : List Side) (x : Variable) (es : List code.Expr) → length es < 1 → has box x ≡ true → variable_form_in box x (exprs_of es) ≡ Some (variable_form x)
form_there box x es l h = rw (none_are es (omega arith), sym (is_counter-any box x) ∙ h) refl

pub form_missing : (box : List Side) (x : Variable) (es : List code.Expr) → length es < 1 → has box x ≡ false → variable_form_in box x (exprs_of es) ≡ None
form_missing box x es l h = rw (none_are es (omega arith), sym (is_counter-any box x) ∙ h) refl

pub form_subscripted : (box : List Side) (x : Variable) (es : List code.Expr) → 1 ≤ length es → variable_form_in box x (exprs_of es) ≡ None
form_subscripted box x [] l = absurd (omega arith)
form_subscripted box x (e ∷ es) l = refl

-- ---- what stops the forms of parts stops that of the whole

pub stops_left : (place : Place) (box : List Side) (op : BinaryOp) (a b : Expr) (fault : Fault) → Stops place (shape_of box a) (form_of box a) fault
    → Stops place (shape_of box (Binary op a b)) (form_of box (Binary op a b)) fault
stops_left place box op a b fault h =
    ⊎_elim (λ (e : fault ≡ OutOfMemory). inl e)
    (λ (e : (form_of box a ≡ None) × ((fault ≡ Limit place) ⊎ (shape_of box a ≡ None))).
    inr (
      ap (λ (o : Option Affine). both_then (operated op (is_number a) (is_number b)) o (form_of box b)) e.0,
      ⊎_elim (λ (l : fault ≡ Limit place). inl l) (λ (s : shape_of box a ≡ None). inr (ap (λ (o : Option Bool). both_then (shape_by op) o (shape_of box b)) s)) e.1,
    )) h

-- the forms of both parts are those of the whole
pub form_joined : (box : List Side) (op : BinaryOp) (a b : Expr) (f g : Affine) (m n : Bool) → form_of box a ≡ Some f → m ≡ is_number a → form_of box b ≡ Some g → n ≡ is_number b
    → form_of box (Binary op a b) ≡ operated op m n f g
form_joined box op a b f g m n p q r s = rw (p, r, q, s) refl

-- so are the shapes, where both have forms
pub shape_joined : (box : List Side) (op : BinaryOp) (a b : Expr) (f g : Affine) (m n : Bool) → form_of box a ≡ Some f → m ≡ is_number a → form_of box b ≡ Some g → n ≡ is_number b
    → shape_of box (Binary op a b) ≡ shape_by op m n
shape_joined box op a b f g m n p q r s = rw (form_shaped box a f p, form_shaped box b g r, q, s) refl

-- what an expression that has no form is refused by
pub stopped : (place : Place) (box : List Side) (e : Expr) (fault : Fault) → Stops place (shape_of box e) (form_of box e) fault → (fault ≡ OutOfMemory) ⊎ (form_of box e ≡ None)
stopped place box e fault h = ⊎_elim (λ (m : fault ≡ OutOfMemory). inl m) (λ (s : (form_of box e ≡ None) × ((fault ≡ Limit place) ⊎ (shape_of box e ≡ None))). inr s.0) h

pub stops_joined : {T : Type 0} (place : Place) (box : List Side) (op : BinaryOp) (a b : Expr) (f g : Affine) (m n : Bool) (r : Result T Fault)
    → form_of box a ≡ Some f → m ≡ is_number a → form_of box b ≡ Some g → n ≡ is_number b → IfErr r (Stops place (shape_by op m n) (operated op m n f g))
    → IfErr r (Stops place (shape_of box (Binary op a b)) (form_of box (Binary op a b)))
stops_joined place box op a b f g m n r p q s t h = rw (form_joined box op a b f g m n p q s t, shape_joined box op a b f g m n p q s t) h

and_not : (a b : Bool) → b ≡ false → (a && b) ≡ false
and_not true b e = e
and_not false b e = refl

-- one subscript without a form
pub one_missing : (box : List Side) (es : List code.Expr) (i : ℕ) (d : code.Expr) → i < length es → form_of box (expr_of (get_or es i d)) ≡ None → are_affine box (exprs_of es) ≡ false
one_missing box [] i d l h = absurd (omega arith)
one_missing box (e ∷ es) zero d l h = rw h refl
one_missing box (e ∷ es) (suc i) d l h = and_not (is_some (form_of box (expr_of e))) (are_affine box (exprs_of es)) (one_missing box es i d (omega arith) h)
