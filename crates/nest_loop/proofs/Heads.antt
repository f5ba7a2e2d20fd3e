-- What a canonical head is made of.
use Rattle.std.specs.Prelude.{Bool, true, false, ◌≡◌, List, Option, Some, None}
use Rattle.std.proofs.Common.{refl, sym, ap, ◌∙◌, cond}
use Rattle.std.proofs.lemmas.Bool.{eqb-true}
use Rattle.std.proofs.lemmas.Option.{none-some, same_Some}
use Rattle.semantics.specs.Tree.{Variable, CompareOp, Expr, Literal, Constant, Object, Unary, Binary, Conditional, no_exprs, more_exprs, Cond, NotZero, Compare, Not, LogicalAnd, LogicalOr, Source, Number, Truth, Increment}
use Rattle.affine.specs.declared.interval.Side.{Side}
use Rattle.affine.specs.Affine.{Affine}
use Rattle.affine_expr.specs.Forms.{form_of}
use Rattle.nest_loop.specs.declared.stride.Stride.{Stride}
use Rattle.nest_loop.specs.declared.stride.Bound.{Bound}
use Rattle.nest_loop.specs.declared.head.Canonical.{Canonical}
use Rattle.nest_loop.specs.Canonical.{is_variable, stride_of, bound_of, bound_after, canonical_by, start_form, canonical}

-- what is behind a test that holds
pub guarded : {A : Type 0} (b : Bool) (o : Option A) (y : A) → cond b o None ≡ Some y → (b ≡ true) × (o ≡ Some y)
guarded true o y e = (refl, e)
guarded false o y e = absurd (none-some y e)

-- an expression that is a variable
pub variable_is : (x : Variable) (e : Expr) → is_variable x e ≡ true → e ≡ Object x no_exprs
variable_is x (Object y no_exprs) h = ap (λ z. Object z no_exprs) (eqb-true y x h)
variable_is x (Object y (more_exprs i is)) h = absurd cc
variable_is x (Literal n suffix) h = absurd cc
variable_is x (Constant name n) h = absurd cc
variable_is x (Unary op a) h = absurd cc
variable_is x (Binary op a b) h = absurd cc
variable_is x (Conditional c a b) h = absurd cc

-- the parts that make a loop
record MadeBy (s : Option Stride) (b : Option Bound) (start limit : Option Affine) (l : Canonical) : Type 0 where
  stride : s ≡ Some l.stride
  bound : b ≡ Some l.bound
  first : start ≡ Some l.start
  last : limit ≡ Some l.limit

made_by : (x : Variable) (s : Option Stride) (b : Option Bound) (start limit : Option Affine) (l : Canonical) → canonical_by x s b start limit ≡ Some l → MadeBy s b start limit l
made_by x (Some s) (Some b) (Some f) (Some g) l e =
    let same = same_Some (record { variable = record { 0 = x }; stride = s; bound = b; start = f; limit = g }) l e in
    record { stride = ap (λ (l : Canonical). Some l.stride) same; bound = ap (λ (l : Canonical). Some l.bound) same; first = ap (λ (l : Canonical). Some l.start) same; last = ap (λ (l : Canonical). Some l.limit) same }
made_by x (Some s) (Some b) (Some f) None l e = absurd (none-some l e)
made_by x (Some s) (Some b) None g l e = absurd (none-some l e)
made_by x (Some s) None f g l e = absurd (none-some l e)
made_by x None b f g l e = absurd (none-some l e)

-- the head of a canonical loop: from one expression on, while its variable compares so with another
pub record IsHead (box : List Side) (x : Variable) (start : Source) (test : Cond) (step : Increment) (l : Canonical) : Type 0 where
  pub from : Expr
  pub to : Expr
  pub op : CompareOp
  pub start_is : start ≡ Number from
  pub test_is : test ≡ Compare op (Object x no_exprs) to
  pub stride : stride_of x step ≡ Some l.stride
  pub bound : bound_of op l.stride ≡ Some l.bound
  pub first : form_of box from ≡ Some l.start
  pub last : form_of box to ≡ Some l.limit

start_is_number : (box : List Side) (start : Source) (f : Affine) → start_form box start ≡ Some f → (e : Expr) × (start ≡ Number e) × (form_of box e ≡ Some f)
start_is_number box (Number e) f h = (e, refl, h)
start_is_number box (Truth c) f h = absurd (none-some f h)

-- a canonical loop has such a head
pub head_of : (box : List Side) (x : Variable) (start : Source) (test : Cond) (step : Increment) (l : Canonical) → canonical box x start test step ≡ Some l → IsHead box x start test step l
head_of box x start (Compare op a ub) step l e =
    let tested = guarded (is_variable x a) (canonical_by x (stride_of x step) (bound_after op (stride_of x step)) (start_form box start) (form_of box ub)) l e in
    let parts = made_by x (stride_of x step) (bound_after op (stride_of x step)) (start_form box start) (form_of box ub) l tested.1 in
    let number = start_is_number box start l.start parts.first in
    record {
      from = number.0;
      to = ub;
      op = op;
      start_is = number.1;
      test_is = ap (λ b. Compare op b ub) (variable_is x a tested.0);
      stride = parts.stride;
      bound = sym (ap (bound_after op) parts.stride) ∙ parts.bound;
      first = number.2;
      last = parts.last;
    }
head_of box x start (NotZero c) step l e = absurd (none-some l e)
head_of box x start (Not c) step l e = absurd (none-some l e)
head_of box x start (LogicalAnd c d) step l e = absurd (none-some l e)
head_of box x start (LogicalOr c d) step l e = absurd (none-some l e)
