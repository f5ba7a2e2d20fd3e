-- What a head that is canonical gives.
use Rattle.std.specs.Prelude.{ℕ, ◌≡◌, ◌≤◌, ◌==◌, Bool, true, false, nat_le, List, Option, Some, None, if◌then◌else◌}
use Rattle.std.proofs.Common.{refl, sym, ◌∙◌, subst, cond}
use Rattle.std.proofs.lemmas.Bool.{leb-true}
use Rattle.semantics.specs.Tree
use Rattle.semantics.specs.Source.Typing.{constant}
use Rattle.affine.specs.declared.interval.Side.{Side}
use Rattle.affine.specs.declared.interval.Interval.{Interval}
use Rattle.affine.specs.Affine.{Affine}
use Rattle.affine_expr.specs.Forms.{kept, form_of}
use Rattle.affine_expr.proofs.Shaping.{form_kept}
use Rattle.nest_loop.specs.declared.stride.Direction.{Direction}
use Rattle.nest_loop.specs.declared.stride.Direction.TheVariants.{Rising, Falling}
use Rattle.nest_loop.specs.declared.stride.Stride.{Stride}
use Rattle.nest_loop.specs.declared.stride.Bound.{Bound}
use Rattle.nest_loop.specs.declared.head.Canonical.{Canonical}
use Rattle.nest_loop.specs.Canonical.{is_variable, stride_by, stride_in, stride_from, stride_op, stride_of, bound_after, canonical_by, start_form, canonical}
use Rattle.nest_loop.specs.Sides.{CannotWrap, IsSide}
use Rattle.nest_loop.specs.Whole.{IsWell}
use Rattle.nest_loop.specs.Loops.{IsLoop}
use Rattle.nest_loop.proofs.Unique.{side_is_unique}

-- what is there only under a test
if_some : {A : Type 0} (b : Bool) (o : Option A) (a : A) → (if b then o else None) ≡ Some a → o ≡ Some a
if_some true o a e = e
if_some false o a e = absurd (cc e)

if_either : {A : Type 0} {P : Type 0} (b : Bool) (o p : Option A) (a : A) → (o ≡ Some a → P) → (p ≡ Some a → P) → (if b then o else p) ≡ Some a → P
if_either true o p a f g e = f e
if_either false o p a f g e = g e

by_positive : (d : Direction) (o : Option ℕ) (s : Stride) → stride_by d o ≡ Some s → 1 ≤ s.by
by_positive d None s e = absurd (cc e)
by_positive d (Some n) s e = by (nat_le 1 n) refl e
  where
    by : (b : Bool) → nat_le 1 n ≡ b → cond b (Some (record { direction = d; by = n })) None ≡ Some s → 1 ≤ s.by
    by true k f =
        let same : record { direction = d; by = n } ≡ s = cc in
        subst (λ (t : Stride). 1 ≤ t.by) same (leb-true 1 n k)
    by false k f = absurd (cc f)

in_positive : (x : Tree.Variable) (e : Tree.Expr) (s : Stride) → stride_in x e ≡ Some s → 1 ≤ s.by
in_positive x (Tree.Binary Tree.Plus a b) s e =
    if_either (is_variable x a) (stride_by Rising (constant b)) _ s (λ k. by_positive Rising (constant b) s k)
    (λ k. by_positive Rising (constant a) s (if_some (is_variable x b) (stride_by Rising (constant a)) s k)) e
in_positive x (Tree.Binary Tree.Minus a b) s e = by_positive Falling (constant b) s (if_some (is_variable x a) (stride_by Falling (constant b)) s e)
in_positive x (Tree.Binary Tree.Times a b) s e = absurd (cc e)
in_positive x (Tree.Binary Tree.Divide a b) s e = absurd (cc e)
in_positive x (Tree.Binary Tree.Remainder a b) s e = absurd (cc e)
in_positive x (Tree.Binary Tree.BitAnd a b) s e = absurd (cc e)
in_positive x (Tree.Binary Tree.BitOr a b) s e = absurd (cc e)
in_positive x (Tree.Binary Tree.BitXor a b) s e = absurd (cc e)
in_positive x (Tree.Binary Tree.ShiftLeft a b) s e = absurd (cc e)
in_positive x (Tree.Binary Tree.ShiftRight a b) s e = absurd (cc e)
in_positive x (Tree.Literal n suffix) s e = absurd (cc e)
in_positive x (Tree.Constant name n) s e = absurd (cc e)
in_positive x (Tree.Object y is) s e = absurd (cc e)
in_positive x (Tree.Unary op a) s e = absurd (cc e)
in_positive x (Tree.Conditional c a b) s e = absurd (cc e)

op_positive : (op : Tree.BinaryOp) (o : Option ℕ) (s : Stride) → stride_op op o ≡ Some s → 1 ≤ s.by
op_positive Tree.Plus o s e = by_positive Rising o s e
op_positive Tree.Minus o s e = by_positive Falling o s e
op_positive Tree.Times o s e = absurd (cc e)
op_positive Tree.Divide o s e = absurd (cc e)
op_positive Tree.Remainder o s e = absurd (cc e)
op_positive Tree.BitAnd o s e = absurd (cc e)
op_positive Tree.BitOr o s e = absurd (cc e)
op_positive Tree.BitXor o s e = absurd (cc e)
op_positive Tree.ShiftLeft o s e = absurd (cc e)
op_positive Tree.ShiftRight o s e = absurd (cc e)

from_positive : (x : Tree.Variable) (e : Tree.Source) (s : Stride) → stride_from x e ≡ Some s → 1 ≤ s.by
from_positive x (Tree.Number e) s k = in_positive x e s k
from_positive x (Tree.Truth c) s k = absurd (cc k)

-- a step goes by 1 at least
pub stride_positive : (x : Tree.Variable) (step : Tree.Increment) (s : Stride) → stride_of x step ≡ Some s → 1 ≤ s.by
stride_positive x (Tree.Up y) s e = by_positive Rising (Some 1) s (if_some (y == x) (stride_by Rising (Some 1)) s e)
stride_positive x (Tree.Down y) s e = by_positive Falling (Some 1) s (if_some (y == x) (stride_by Falling (Some 1)) s e)
stride_positive x (Tree.Change y op e) s k = op_positive op (constant e) s (if_some (y == x) (stride_op op (constant e)) s k)
stride_positive x (Tree.Set y e) s k = from_positive x e s (if_some (y == x) (stride_from x e) s k)

start_kept : (box : List Side) (e : Tree.Source) (f : Affine) → start_form box e ≡ Some f → kept f ≡ Some f
start_kept box (Tree.Number e) f k = form_kept box e f k
start_kept box (Tree.Truth c) f k = absurd (cc k)

by_well : (x : Tree.Variable) (s : Option Stride) (b : Option Bound) (start limit : Option Affine) (l : Canonical) → ((t : Stride) → s ≡ Some t → 1 ≤ t.by)
    → ((f : Affine) → start ≡ Some f → kept f ≡ Some f) → ((f : Affine) → limit ≡ Some f → kept f ≡ Some f) → canonical_by x s b start limit ≡ Some l → IsWell l
by_well x None b start limit l p q r e = absurd (cc e)
by_well x (Some s) None start limit l p q r e = absurd (cc e)
by_well x (Some s) (Some b) None limit l p q r e = absurd (cc e)
by_well x (Some s) (Some b) (Some f) None l p q r e = absurd (cc e)
by_well x (Some s) (Some b) (Some f) (Some g) l p q r e =
    let same : record { variable = record { 0 = x }; stride = s; bound = b; start = f; limit = g } ≡ l = cc in
    subst IsWell same (record { by_one = p s refl; start = q f refl; limit = r g refl })

-- a loop as a head makes it goes by 1 at least, and its forms are kept
pub canonical_well : (box : List Side) (x : Tree.Variable) (start : Tree.Source) (test : Tree.Cond) (step : Tree.Increment) (l : Canonical) → canonical box x start test step ≡ Some l → IsWell l
canonical_well box x start (Tree.Compare op a ub) step l e =
    by_well x (stride_of x step) (bound_after op (stride_of x step)) (start_form box start) (form_of box ub) l (stride_positive x step) (start_kept box start) (form_kept box ub)
    (if_some (is_variable x a) (canonical_by x (stride_of x step) (bound_after op (stride_of x step)) (start_form box start) (form_of box ub)) l e)
canonical_well box x start (Tree.NotZero c) step l e = absurd (cc e)
canonical_well box x start (Tree.Not c) step l e = absurd (cc e)
canonical_well box x start (Tree.LogicalAnd c d) step l e = absurd (cc e)
canonical_well box x start (Tree.LogicalOr c d) step l e = absurd (cc e)

-- no head makes a loop where it is not canonical
pub no_loop : (box : List Side) (x : Tree.Variable) (start : Tree.Source) (test : Tree.Cond) (step : Tree.Increment) (body : Tree.Stmt) (l : Canonical) (i : Interval)
    → canonical box x start test step ≡ None → IsLoop box x start test step body l i → ⊥
no_loop box x start test step body l i e h = let f = h.form in cc

-- one head makes one loop
pub loop_is_unique : (box : List Side) (x : Tree.Variable) (start : Tree.Source) (test : Tree.Cond) (step : Tree.Increment) (body : Tree.Stmt) (l m : Canonical) (i j : Interval)
    → IsLoop box x start test step body l i → IsLoop box x start test step body m j → (l ≡ m) × (i ≡ j)
loop_is_unique box x start test step body l m i j p q =
    let same : l ≡ m = one p.form q.form in
    (same, side_is_unique box m i j (subst (λ (k : Canonical). IsSide box k i) same p.numbers) q.numbers)
  where
    one : canonical box x start test step ≡ Some l → canonical box x start test step ≡ Some m → l ≡ m
    one e f = let both : Some l ≡ Some m = sym e ∙ f in cc

-- nor where its variable may wrap
pub no_loop_wraps : (box : List Side) (x : Tree.Variable) (start : Tree.Source) (test : Tree.Cond) (step : Tree.Increment) (body : Tree.Stmt) (m l : Canonical) (i : Interval)
    → canonical box x start test step ≡ Some m → (CannotWrap box m → ⊥) → IsLoop box x start test step body l i → ⊥
no_loop_wraps box x start test step body m l i e f h =
    let both : Some l ≡ Some m = sym h.form ∙ e in
    let same : l ≡ m = cc in
    f (subst (CannotWrap box) same h.stays)
