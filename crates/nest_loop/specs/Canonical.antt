-- Canonical loops: how a variable goes from its start to its end. (OpenMP 5.2, 4.4.1; C11 6.8.5.3)
use Rattle.std.specs.Prelude.{ℕ, Bool, false, ◌||◌, ◌==◌, nat_le, List, if◌then◌else◌, Option, Some, None}
use Rattle.semantics.specs.Tree.{Variable, BinaryOp, Plus, Minus, CompareOp, Less, LessEqual, Greater, GreaterEqual, Equal, NotEqual, Expr, Object, Binary, no_exprs, Cond, NotZero, Compare, Not, LogicalAnd, LogicalOr, Source, Number, Truth, Increment, Up, Down, Set, Change, Stmt, Assign, Update, If, IfElse, For, Block, Print, Items, no_items, mark, local, stmt}
use Rattle.semantics.specs.Source.Typing.{constant}
use Rattle.affine.specs.declared.interval.Side.{Side}
use Rattle.affine.specs.Affine.{Affine}
use Rattle.affine_expr.specs.Forms.{form_of}
use Rattle.nest_loop.specs.declared.stride.Direction.{Direction}
use Rattle.nest_loop.specs.declared.stride.Direction.TheVariants.{Rising, Falling}
use Rattle.nest_loop.specs.declared.stride.Stride.{Stride}
use Rattle.nest_loop.specs.declared.stride.Bound.{Bound}
use Rattle.nest_loop.specs.declared.stride.Bound.TheVariants.{Strict, Inclusive, Unequal}
use Rattle.nest_loop.specs.declared.head.Canonical.{Canonical}

-- the variable itself
abbrev pub is_variable : Variable → Expr → Bool
is_variable x (Object y no_exprs) = y == x
is_variable x _ = false

-- by a constant expression of at least 1
abbrev pub stride_by : Direction → Option ℕ → Option Stride
stride_by d None = None
stride_by d (Some n) = if nat_le 1 n then Some (record { direction = d; by = n }) else None

-- the right sides `v + s`, `s + v` and `v - s`
abbrev pub stride_in : Variable → Expr → Option Stride
stride_in x (Binary Plus a b) = if is_variable x a then stride_by Rising (constant b) else (if is_variable x b then stride_by Rising (constant a) else None)
stride_in x (Binary Minus a b) = if is_variable x a then stride_by Falling (constant b) else None
stride_in x _ = None

abbrev pub stride_from : Variable → Source → Option Stride
stride_from x (Number e) = stride_in x e
stride_from x (Truth c) = None

-- `v += s` and `v -= s`
abbrev pub stride_op : BinaryOp → Option ℕ → Option Stride
stride_op Plus s = stride_by Rising s
stride_op Minus s = stride_by Falling s
stride_op _ s = None

-- the step of a canonical loop
abbrev pub stride_of : Variable → Increment → Option Stride
stride_of x (Up y) = if y == x then stride_by Rising (Some 1) else None
stride_of x (Down y) = if y == x then stride_by Falling (Some 1) else None
stride_of x (Change y op e) = if y == x then stride_op op (constant e) else None
stride_of x (Set y e) = if y == x then stride_from x e else None

-- where the variable rises, or where it falls
abbrev pub if_rising : Direction → Bound → Option Bound
if_rising Rising b = Some b
if_rising Falling b = None

abbrev pub if_falling : Direction → Bound → Option Bound
if_falling Rising b = None
if_falling Falling b = Some b

-- what the test says of a loop with this step: with `< <=` the variable rises, with `> >=` it falls, with `!=` it goes by 1
abbrev pub bound_of : CompareOp → Stride → Option Bound
bound_of Less s = if_rising s.direction Strict
bound_of LessEqual s = if_rising s.direction Inclusive
bound_of Greater s = if_falling s.direction Strict
bound_of GreaterEqual s = if_falling s.direction Inclusive
bound_of NotEqual s = if s.by == 1 then Some Unequal else None
bound_of Equal s = None

-- a loop by its step, its test, and the forms of its start and of what its variable is compared with
abbrev pub canonical_by : Variable → Option Stride → Option Bound → Option Affine → Option Affine → Option Canonical
canonical_by x (Some s) (Some b) (Some start) (Some limit) = Some (record { variable = record { 0 = x }; stride = s; bound = b; start = start; limit = limit })
canonical_by x _ _ _ _ = None

-- what the test says, where there is a step
abbrev pub bound_after : CompareOp → Option Stride → Option Bound
bound_after op None = None
bound_after op (Some s) = bound_of op s

-- the test `v op ub`
abbrev pub with_test : List Side → Variable → Option Affine → Cond → Option Stride → Option Canonical
with_test box x start (Compare op a ub) s = if is_variable x a then canonical_by x s (bound_after op s) start (form_of box ub) else None
with_test box x start (NotZero e) s = None
with_test box x start (Not c) s = None
with_test box x start (LogicalAnd c d) s = None
with_test box x start (LogicalOr c d) s = None

-- the start is an arithmetic expression
abbrev pub start_form : List Side → Source → Option Affine
start_form box (Number e) = form_of box e
start_form box (Truth c) = None

-- `for (uint64_t v = lb; v op ub; incr)` inside the loops of a box: lb and ub are affine in the variables of these loops alone
abbrev pub canonical : List Side → Variable → Source → Cond → Increment → Option Canonical
canonical box x start test step = with_test box x (start_form box start) test (stride_of x step)

-- the variable that a loop's step assigns (C11 6.5.2.4, 6.5.3.1, 6.5.16)
abbrev pub stepped : Increment → Variable
stepped (Up x) = x
stepped (Down x) = x
stepped (Set x e) = x
stepped (Change x op e) = x

abbrev mutual
  -- a statement assigns a variable, if only by the step of a loop
  pub assigns : Variable → Stmt → Bool
  assigns x (Assign y is e) = y == x
  assigns x (Update y is op e) = y == x
  assigns x (If c a) = assigns x a
  assigns x (IfElse c a b) = assigns x a || assigns x b
  assigns x (For y name start test step body) = (stepped step == x) || assigns x body
  assigns x (Block items) = assigns_among x items
  assigns x (Print parts) = false

  -- one of a block's items does
  pub assigns_among : Variable → Items → Bool
  assigns_among x no_items = false
  assigns_among x (mark line rest) = assigns_among x rest
  assigns_among x (local y name start rest) = assigns_among x rest
  assigns_among x (stmt s rest) = assigns x s || assigns_among x rest
