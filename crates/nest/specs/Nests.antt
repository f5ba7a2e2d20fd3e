-- Kernels whose loops are canonical and whose subscripts are affine and stay inside their arrays. (OpenMP 5.2, 4.4.1; C11 6.5.2.1)
use Rattle.std.specs.Prelude.{ℕ, ◌≡◌, true, ℤ, pos, ◌≤ℤ◌, ◌<ℤ◌, List, [], ◌∷◌, Option, Some, None, slice_get}
use Rattle.semantics.specs.Tree.{Variable, Expr, Literal, Constant, Object, Unary, Binary, Conditional, Exprs, no_exprs, more_exprs, Cond, NotZero, Compare, Not, LogicalAnd, LogicalOr, Source, Number, Truth, PrintPart, Characters, Decimal, Stmt, Assign, Update, If, IfElse, For, Block, Print, Items, no_items, mark, local, stmt, Declaration, Kernel}
use Rattle.affine.specs.declared.interval.Interval.{Interval}
use Rattle.affine.specs.declared.interval.Side.{Side}
use Rattle.affine.specs.Affine.{Affine, value}
use Rattle.affine.specs.Box.{IsInside}
use Rattle.affine_expr.specs.Forms.{form_of, are_affine}
use Rattle.nest_loop.specs.declared.head.Canonical.{Canonical}
use Rattle.nest_loop.specs.Loops.{IsLoop, inside}

-- what is asked of the objects that are named inside the loops of a box
abbrev pub Asked : Type 1
Asked = List Side → Variable → Exprs → Type 0

-- it is so of each object that an expression names
abbrev mutual
  pub ExprHas : Asked → List Side → Expr → Type 0
  ExprHas P box (Literal n suffix) = Unit {0}
  ExprHas P box (Constant name n) = Unit {0}
  ExprHas P box (Object x is) = P box x is
  ExprHas P box (Unary op a) = ExprHas P box a
  ExprHas P box (Binary op a b) = ExprHas P box a × ExprHas P box b
  ExprHas P box (Conditional c a b) = CondHas P box c × ExprHas P box a × ExprHas P box b

  -- that a condition names
  pub CondHas : Asked → List Side → Cond → Type 0
  CondHas P box (NotZero e) = ExprHas P box e
  CondHas P box (Compare op a b) = ExprHas P box a × ExprHas P box b
  CondHas P box (Not c) = CondHas P box c
  CondHas P box (LogicalAnd c d) = CondHas P box c × CondHas P box d
  CondHas P box (LogicalOr c d) = CondHas P box c × CondHas P box d

-- that a right side names
abbrev pub SourceHas : Asked → List Side → Source → Type 0
SourceHas P box (Number e) = ExprHas P box e
SourceHas P box (Truth c) = CondHas P box c

-- that an initialiser names
abbrev pub StartHas : Asked → List Side → Option Source → Type 0
StartHas P box None = Unit {0}
StartHas P box (Some e) = SourceHas P box e

-- that printf's arguments name
abbrev pub PartsHave : Asked → List Side → List PrintPart → Type 0
PartsHave P box [] = Unit {0}
PartsHave P box (Characters bs ∷ ps) = PartsHave P box ps
PartsHave P box (Decimal e ∷ ps) = ExprHas P box e × PartsHave P box ps

abbrev mutual
  -- every loop of a statement is so, and it is so of each object that the statement names
  pub Has : Asked → List Side → Stmt → Type 0
  Has P box (Assign x is e) = P box x is × SourceHas P box e
  Has P box (Update x is op e) = P box x is × ExprHas P box e
  Has P box (If c a) = CondHas P box c × Has P box a
  Has P box (IfElse c a b) = CondHas P box c × Has P box a × Has P box b
  Has P box (For x name start test step body) =
      (l : Canonical) × (i : Interval) × IsLoop box x start test step body l i × Has P (inside box x i) body
  Has P box (Block items) = Have P box items
  Has P box (Print parts) = PartsHave P box parts

  -- of a block's items
  pub Have : Asked → List Side → Items → Type 0
  Have P box no_items = Unit {0}
  Have P box (mark line rest) = Have P box rest
  Have P box (local x name start rest) = StartHas P box start × Have P box rest
  Have P box (stmt s rest) = Has P box s × Have P box rest

-- a subscript is affine
abbrev pub IsAffine : Asked
IsAffine box x is = are_affine box is ≡ true

-- the whole number that a subscript's form gives is one of a dimension, wherever in the box
abbrev pub StaysBelow : List Side → ℕ → Option Affine → Type 0
StaysBelow box n None = ⊥
StaysBelow box n (Some f) = (values : Variable → ℤ) → IsInside box values → (pos 0 ≤ℤ value f values) × (value f values <ℤ pos n)

-- as many subscripts as dimensions, each of its own dimension (C11 6.5.6, 8)
abbrev pub AllStay : List Side → List ℕ → Exprs → Type 0
AllStay box [] no_exprs = Unit {0}
AllStay box (n ∷ ns) (more_exprs e es) = StaysBelow box n (form_of box e) × AllStay box ns es
AllStay box [] (more_exprs e es) = ⊥
AllStay box (n ∷ ns) no_exprs = ⊥

-- the lengths of a file-scope variable; a local has none
abbrev pub lengths_of : Option Declaration → List ℕ
lengths_of None = []
lengths_of (Some d) = d.lengths

-- an access leaves no dimension of its array
abbrev pub StaysInside : List Declaration → Asked
StaysInside ds box x is = AllStay box (lengths_of (slice_get ds x)) is

-- the loops of a kernel are canonical, and its subscripts affine
abbrev pub IsNested : Kernel → Type 0
IsNested k = Have IsAffine [] k.body

-- moreover no access leaves its array
abbrev pub IsInRange : Kernel → Type 0
IsInRange k = Have (StaysInside k.variables) [] k.body
