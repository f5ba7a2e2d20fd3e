-- Expressions that have forms, and the steps of canonical loops, are fixed where the variables of the loops round them are.
use Rattle.std.specs.Prelude.{ℕ, Bool, true, false, ◌≡◌, ◌==◌, negsuc, List, Option, Some, None, option_and_then}
use Rattle.std.proofs.Common.{refl, sym, subst, cond}
use Rattle.std.proofs.lemmas.Bool.{eqb-true, eq-eqb, or_left}
use Rattle.std.proofs.lemmas.Option.{none-some}
use Rattle.semantics.specs.Tree.{Variable, Negate, Complement, BinaryOp, Plus, Minus, Times, Divide, Remainder, BitAnd, BitOr, BitXor, ShiftLeft, ShiftRight, Expr, Literal, Constant, Object, Unary, Binary, Conditional, no_exprs, more_exprs, Number, Truth, Increment, Up, Down, Set, Change}
use Rattle.semantics.specs.Source.Typing.{int_operate, flat, constant}
use Rattle.semantics.specs.Meaning.Value.{both, both_then}
use Rattle.semantics.specs.Meaning.Agrees.{also}
use Rattle.affine.specs.declared.interval.Side.{Side}
use Rattle.affine.specs.Affine.{Affine}
use Rattle.affine.specs.Arithmetic.{multiple_form, variable_form}
use Rattle.affine_expr.specs.Forms.{kept, is_counter, is_number, operated, form_of}
use Rattle.nest_loop.specs.declared.stride.Direction.{Direction}
use Rattle.nest_loop.specs.declared.stride.Direction.TheVariants.{Rising, Falling}
use Rattle.nest_loop.specs.declared.stride.Stride.{Stride}
use Rattle.nest_loop.specs.Canonical.{is_variable, stride_by, stride_in, stride_op, stride_of}
use Rattle.nest_loop.proofs.Heads.{guarded, variable_is}
use Rattle.law_commute.specs.Steady.{IsFixedExpr, IsFixedStep}

-- ---- results that are there have parts that are

both_there : {A B C : Type 0} (f : A → B → Option C) (o : Option A) (p : Option B) (c : C) → both_then f o p ≡ Some c → (a : A) × (b : B) × (o ≡ Some a) × (p ≡ Some b)
both_there f (Some a) (Some b) c e = (a, b, refl, refl)
both_there f (Some a) None c e = absurd (none-some c e)
both_there f None p c e = absurd (none-some c e)

operands_there : (f : ℕ → ℕ → Option ℕ) (o p : Option ℕ) (n : ℕ) → flat (both f o p) ≡ Some n → (a b : ℕ) × (o ≡ Some a) × (p ≡ Some b)
operands_there f (Some a) (Some b) n e = (a, b, refl, refl)
operands_there f (Some a) None n e = absurd (none-some n e)
operands_there f None p n e = absurd (none-some n e)

first_there : (f : Affine → Option Affine) (o : Option Affine) (c : Affine) → option_and_then f o ≡ Some c → (a : Affine) × (o ≡ Some a)
first_there f (Some a) c e = (a, refl)
first_there f None c e = absurd (none-some c e)

-- ---- forms

module _ (box : List Side) (fixed : Variable → Bool) (counters : (y : Variable) → is_counter box y ≡ true → fixed y ≡ true) where
  pub form_fixed : (e : Expr) (f : Affine) → form_of box e ≡ Some f → IsFixedExpr fixed e
  form_fixed (Literal n suffix) f h = tt
  form_fixed (Constant name n) f h = tt
  form_fixed (Object x no_exprs) f h = counters x (guarded (is_counter box x) (Some (variable_form x)) f h).0
  form_fixed (Object x (more_exprs i is)) f h = absurd (none-some f h)
  form_fixed (Unary Negate a) f h =
      let there = first_there (λ g. kept (multiple_form g (negsuc 0))) (form_of box a) f h in
      form_fixed a there.0 there.1
  form_fixed (Unary Complement a) f h = absurd (none-some f h)
  form_fixed (Binary op a b) f h =
      let there = both_there (operated op (is_number a) (is_number b)) (form_of box a) (form_of box b) f h in
      (form_fixed a there.0 there.2, form_fixed b there.1 there.3)
  form_fixed (Conditional c a b) f h = absurd (none-some f h)

-- ---- steps

-- a constant expression names no variable (C11 6.6)
constant_fixed : (fixed : Variable → Bool) (e : Expr) (n : ℕ) → constant e ≡ Some n → IsFixedExpr fixed e
constant_fixed fixed (Literal m suffix) n h = tt
constant_fixed fixed (Constant name m) n h = tt
constant_fixed fixed (Object x is) n h = absurd (none-some n h)
constant_fixed fixed (Unary op a) n h = absurd (none-some n h)
constant_fixed fixed (Binary op a b) n h =
    let there = operands_there (int_operate op) (constant a) (constant b) n h in
    (constant_fixed fixed a there.0 there.2, constant_fixed fixed b there.1 there.3)
constant_fixed fixed (Conditional c a b) n h = absurd (none-some n h)

by_constant : (fixed : Variable → Bool) (d : Direction) (e : Expr) (s : Stride) → stride_by d (constant e) ≡ Some s → IsFixedExpr fixed e
by_constant fixed d e s h = go (constant e) refl h
  where
    go : (o : Option ℕ) → constant e ≡ o → stride_by d o ≡ Some s → IsFixedExpr fixed e
    go None is q = absurd (none-some s q)
    go (Some n) is q = constant_fixed fixed e n is

module _ (fixed : Variable → Bool) (x : Variable) where
  pub own_fixed : also fixed x x ≡ true
  own_fixed = or_left (x == x) (fixed x) (eq-eqb x x refl)

  variable_fixed : (e : Expr) → is_variable x e ≡ true → IsFixedExpr (also fixed x) e
  variable_fixed e h = subst (IsFixedExpr (also fixed x)) (sym (variable_is x e h)) own_fixed

  rising_fixed : (a b : Expr) (s : Stride) → stride_in x (Binary Plus a b) ≡ Some s → IsFixedExpr (also fixed x) a × IsFixedExpr (also fixed x) b
  rising_fixed a b s h = go (is_variable x a) refl h
    where
      go : (t : Bool) → is_variable x a ≡ t → cond t (stride_by Rising (constant b)) (cond (is_variable x b) (stride_by Rising (constant a)) None) ≡ Some s
          → IsFixedExpr (also fixed x) a × IsFixedExpr (also fixed x) b
      go true is q = (variable_fixed a is, by_constant (also fixed x) Rising b s q)
      go false is q =
          let second = guarded (is_variable x b) (stride_by Rising (constant a)) s q in
          (by_constant (also fixed x) Rising a s second.1, variable_fixed b second.0)

  operation_fixed : (op : BinaryOp) (e : Expr) (s : Stride) → stride_op op (constant e) ≡ Some s → IsFixedExpr (also fixed x) e
  operation_fixed Plus e s h = by_constant (also fixed x) Rising e s h
  operation_fixed Minus e s h = by_constant (also fixed x) Falling e s h
  operation_fixed Times e s h = absurd (none-some s h)
  operation_fixed Divide e s h = absurd (none-some s h)
  operation_fixed Remainder e s h = absurd (none-some s h)
  operation_fixed BitAnd e s h = absurd (none-some s h)
  operation_fixed BitOr e s h = absurd (none-some s h)
  operation_fixed BitXor e s h = absurd (none-some s h)
  operation_fixed ShiftLeft e s h = absurd (none-some s h)
  operation_fixed ShiftRight e s h = absurd (none-some s h)

  right_fixed : (e : Expr) (s : Stride) → stride_in x e ≡ Some s → IsFixedExpr (also fixed x) e
  right_fixed (Binary Plus a b) s h = rising_fixed a b s h
  right_fixed (Binary Minus a b) s h =
      let first = guarded (is_variable x a) (stride_by Falling (constant b)) s h in
      (variable_fixed a first.0, by_constant (also fixed x) Falling b s first.1)
  right_fixed (Binary Times a b) s h = absurd (none-some s h)
  right_fixed (Binary Divide a b) s h = absurd (none-some s h)
  right_fixed (Binary Remainder a b) s h = absurd (none-some s h)
  right_fixed (Binary BitAnd a b) s h = absurd (none-some s h)
  right_fixed (Binary BitOr a b) s h = absurd (none-some s h)
  right_fixed (Binary BitXor a b) s h = absurd (none-some s h)
  right_fixed (Binary ShiftLeft a b) s h = absurd (none-some s h)
  right_fixed (Binary ShiftRight a b) s h = absurd (none-some s h)
  right_fixed (Literal n suffix) s h = absurd (none-some s h)
  right_fixed (Constant name n) s h = absurd (none-some s h)
  right_fixed (Object y is) s h = absurd (none-some s h)
  right_fixed (Unary op a) s h = absurd (none-some s h)
  right_fixed (Conditional c a b) s h = absurd (none-some s h)

  -- the step of a canonical loop
  pub step_fixed : (step : Increment) (s : Stride) → stride_of x step ≡ Some s → IsFixedStep (also fixed x) x step
  step_fixed (Up y) s h = eqb-true y x (guarded (y == x) (stride_by Rising (Some 1)) s h).0
  step_fixed (Down y) s h = eqb-true y x (guarded (y == x) (stride_by Falling (Some 1)) s h).0
  step_fixed (Change y op e) s h =
      let parts = guarded (y == x) (stride_op op (constant e)) s h in
      (eqb-true y x parts.0, operation_fixed op e s parts.1)
  step_fixed (Set y (Number e)) s h =
      let parts = guarded (y == x) (stride_in x e) s h in
      (eqb-true y x parts.0, right_fixed e s parts.1)
  step_fixed (Set y (Truth c)) s h = absurd (none-some s (guarded (y == x) None s h).1)
