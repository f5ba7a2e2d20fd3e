-- Kernels in which a subscript leaves its array. (C11 6.5.6, 8)
use Rattle.std.specs.Prelude.{ℕ, ℤ, pos, ◌≤ℤ◌, ◌<ℤ◌, ◌⊎◌, List, [], ◌∷◌, Option, Some, None, slice_get}
use Rattle.semantics.specs.Tree.{Variable, Expr, Literal, Constant, Object, Unary, Binary, Conditional, Exprs, no_exprs, more_exprs, Cond, NotZero, Compare, Not, LogicalAnd, LogicalOr, Source, Number, Truth, PrintPart, Characters, Decimal, Stmt, Assign, Update, If, IfElse, For, Block, Print, Items, no_items, mark, local, stmt, Declaration, Kernel}
use Rattle.affine.specs.declared.interval.Interval.{Interval}
use Rattle.affine.specs.declared.interval.Side.{Side}
use Rattle.affine.specs.Affine.{Affine, value}
use Rattle.affine.specs.Box.{IsInside}
use Rattle.affine_expr.specs.Forms.{form_of}
use Rattle.nest_loop.specs.declared.head.Canonical.{Canonical}
use Rattle.nest_loop.specs.Loops.{IsLoop, inside}
use Rattle.nest.specs.Nests.{Asked, lengths_of}

-- it is so of some object that an expression names
abbrev mutual
  pub ExprMeets : Asked → List Side → Expr → Type 0
  ExprMeets P box (Literal n suffix) = ⊥
  ExprMeets P box (Constant name n) = ⊥
  ExprMeets P box (Object x is) = P box x is
  ExprMeets P box (Unary op a) = ExprMeets P box a
  ExprMeets P box (Binary op a b) = ExprMeets P box a ⊎ ExprMeets P box b
  ExprMeets P box (Conditional c a b) = CondMeets P box c ⊎ (ExprMeets P box a ⊎ ExprMeets P box b)

  -- that a condition names
  pub CondMeets : Asked → List Side → Cond → Type 0
  CondMeets P box (NotZero e) = ExprMeets P box e
  CondMeets P box (Compare op a b) = ExprMeets P box a ⊎ ExprMeets P box b
  CondMeets P box (Not c) = CondMeets P box c
  CondMeets P box (LogicalAnd c d) = CondMeets P box c ⊎ CondMeets P box d
  CondMeets P box (LogicalOr c d) = CondMeets P box c ⊎ CondMeets P box d

-- that a right side names
abbrev pub SourceMeets : Asked → List Side → Source → Type 0
SourceMeets P box (Number e) = ExprMeets P box e
SourceMeets P box (Truth c) = CondMeets P box c

-- that an initialiser names
abbrev pub StartMeets : Asked → List Side → Option Source → Type 0
StartMeets P box None = ⊥
StartMeets P box (Some e) = SourceMeets P box e

-- that printf's arguments name
abbrev pub PartsMeet : Asked → List Side → List PrintPart → Type 0
PartsMeet P box [] = ⊥
PartsMeet P box (Characters bs ∷ ps) = PartsMeet P box ps
PartsMeet P box (Decimal e ∷ ps) = ExprMeets P box e ⊎ PartsMeet P box ps

abbrev mutual
  -- that a statement names, the loops round it being as the rules have them
  pub Meets : Asked → List Side → Stmt → Type 0
  Meets P box (Assign x is e) = P box x is ⊎ SourceMeets P box e
  Meets P box (Update x is op e) = P box x is ⊎ ExprMeets P box e
  Meets P box (If c a) = CondMeets P box c ⊎ Meets P box a
  Meets P box (IfElse c a b) = CondMeets P box c ⊎ (Meets P box a ⊎ Meets P box b)
  Meets P box (For x name start test step body) =
      (l : Canonical) × (i : Interval) × IsLoop box x start test step body l i × Meets P (inside box x i) body
  Meets P box (Block items) = Meet P box items
  Meets P box (Print parts) = PartsMeet P box parts

  -- that a block's items name
  pub Meet : Asked → List Side → Items → Type 0
  Meet P box no_items = ⊥
  Meet P box (mark line rest) = Meet P box rest
  Meet P box (local x name start rest) = StartMeets P box start ⊎ Meet P box rest
  Meet P box (stmt s rest) = Meets P box s ⊎ Meet P box rest

-- somewhere in the box the whole number that a subscript's form gives is none of a dimension
abbrev pub LeavesDimension : List Side → ℕ → Option Affine → Type 0
LeavesDimension box n None = ⊥
LeavesDimension box n (Some f) = (values : Variable → ℤ) × IsInside box values × ((pos 0 ≤ℤ value f values) × (value f values <ℤ pos n) → ⊥)

-- one of the subscripts leaves its own dimension, or there are not as many as dimensions (C11 6.5.6, 8)
abbrev pub SomeLeaves : List Side → List ℕ → Exprs → Type 0
SomeLeaves box [] no_exprs = ⊥
SomeLeaves box (n ∷ ns) (more_exprs e es) = LeavesDimension box n (form_of box e) ⊎ SomeLeaves box ns es
SomeLeaves box [] (more_exprs e es) = Unit {0}
SomeLeaves box (n ∷ ns) no_exprs = Unit {0}

-- an access leaves a dimension of its array
abbrev pub LeavesArray : List Declaration → Asked
LeavesArray ds box x is = SomeLeaves box (lengths_of (slice_get ds x)) is

-- some access of a kernel leaves its array
abbrev pub LeavesSomewhere : Kernel → Type 0
LeavesSomewhere k = Meet (LeavesArray k.variables) [] k.body
