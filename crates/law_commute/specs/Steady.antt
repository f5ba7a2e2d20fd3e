-- Bodies whose subscripts and inner loops do not depend on what the body computes.
use Rattle.std.specs.Prelude.{Bool, true, false, ◌≡◌, List, [], ◌∷◌, Option, Some, None}
use Rattle.semantics.specs.Tree.{Variable, Expr, Literal, Constant, Object, Unary, Binary, Conditional, Exprs, no_exprs, more_exprs, Cond, NotZero, Compare, Not, LogicalAnd, LogicalOr, Source, Number, Truth, Increment, Up, Down, Set, Change, PrintPart, Characters, Decimal, Stmt, Assign, Update, If, IfElse, For, Block, Print, Items, no_items, mark, local, stmt}
use Rattle.semantics.specs.Meaning.Agrees.{also}

-- fixed variables are those that the body does not assign: an expression of these, and of no element
abbrev mutual
  -- an arithmetic expression
  pub IsFixedExpr : (Variable → Bool) → Expr → Type 0
  IsFixedExpr fixed (Literal n suffix) = Unit {0}
  IsFixedExpr fixed (Constant name n) = Unit {0}
  IsFixedExpr fixed (Object x no_exprs) = fixed x ≡ true
  IsFixedExpr fixed (Object x (more_exprs i is)) = ⊥
  IsFixedExpr fixed (Unary op a) = IsFixedExpr fixed a
  IsFixedExpr fixed (Binary op a b) = IsFixedExpr fixed a × IsFixedExpr fixed b
  IsFixedExpr fixed (Conditional c a b) = IsFixedCond fixed c × IsFixedExpr fixed a × IsFixedExpr fixed b

  -- a condition
  pub IsFixedCond : (Variable → Bool) → Cond → Type 0
  IsFixedCond fixed (NotZero a) = IsFixedExpr fixed a
  IsFixedCond fixed (Compare op a b) = IsFixedExpr fixed a × IsFixedExpr fixed b
  IsFixedCond fixed (Not c) = IsFixedCond fixed c
  IsFixedCond fixed (LogicalAnd c d) = IsFixedCond fixed c × IsFixedCond fixed d
  IsFixedCond fixed (LogicalOr c d) = IsFixedCond fixed c × IsFixedCond fixed d

-- a right side
abbrev pub IsFixedSource : (Variable → Bool) → Source → Type 0
IsFixedSource fixed (Number a) = IsFixedExpr fixed a
IsFixedSource fixed (Truth c) = IsFixedCond fixed c

-- subscripts
abbrev pub AreFixed : (Variable → Bool) → Exprs → Type 0
AreFixed fixed no_exprs = Unit {0}
AreFixed fixed (more_exprs i is) = IsFixedExpr fixed i × AreFixed fixed is

-- a loop's step changes its own variable, by a fixed expression
abbrev pub IsFixedStep : (Variable → Bool) → Variable → Increment → Type 0
IsFixedStep fixed x (Up y) = y ≡ x
IsFixedStep fixed x (Down y) = y ≡ x
IsFixedStep fixed x (Set y a) = (y ≡ x) × IsFixedSource fixed a
IsFixedStep fixed x (Change y op a) = (y ≡ x) × IsFixedExpr fixed a

-- each subscript of these is fixed
abbrev mutual
  -- of an arithmetic expression
  pub IsSteadyExpr : (Variable → Bool) → Expr → Type 0
  IsSteadyExpr fixed (Literal n suffix) = Unit {0}
  IsSteadyExpr fixed (Constant name n) = Unit {0}
  IsSteadyExpr fixed (Object x is) = AreFixed fixed is
  IsSteadyExpr fixed (Unary op a) = IsSteadyExpr fixed a
  IsSteadyExpr fixed (Binary op a b) = IsSteadyExpr fixed a × IsSteadyExpr fixed b
  IsSteadyExpr fixed (Conditional c a b) = IsSteadyCond fixed c × IsSteadyExpr fixed a × IsSteadyExpr fixed b

  -- of a condition
  pub IsSteadyCond : (Variable → Bool) → Cond → Type 0
  IsSteadyCond fixed (NotZero a) = IsSteadyExpr fixed a
  IsSteadyCond fixed (Compare op a b) = IsSteadyExpr fixed a × IsSteadyExpr fixed b
  IsSteadyCond fixed (Not c) = IsSteadyCond fixed c
  IsSteadyCond fixed (LogicalAnd c d) = IsSteadyCond fixed c × IsSteadyCond fixed d
  IsSteadyCond fixed (LogicalOr c d) = IsSteadyCond fixed c × IsSteadyCond fixed d

-- of a right side
abbrev pub IsSteadySource : (Variable → Bool) → Source → Type 0
IsSteadySource fixed (Number a) = IsSteadyExpr fixed a
IsSteadySource fixed (Truth c) = IsSteadyCond fixed c

-- of an initialiser
abbrev pub IsSteadyStart : (Variable → Bool) → Option Source → Type 0
IsSteadyStart fixed None = Unit {0}
IsSteadyStart fixed (Some a) = IsSteadySource fixed a

-- of what printf prints
abbrev pub AreSteadyParts : (Variable → Bool) → List PrintPart → Type 0
AreSteadyParts fixed [] = Unit {0}
AreSteadyParts fixed (Characters bs ∷ ps) = AreSteadyParts fixed ps
AreSteadyParts fixed (Decimal a ∷ ps) = IsSteadyExpr fixed a × AreSteadyParts fixed ps

-- what is assigned: an element of a fixed array, or a scalar that is not fixed
abbrev pub IsSteadyTarget : (Variable → Bool) → Variable → Exprs → Type 0
IsSteadyTarget fixed x no_exprs = fixed x ≡ false
IsSteadyTarget fixed x (more_exprs i is) = (fixed x ≡ true) × AreFixed fixed (more_exprs i is)

abbrev mutual
  -- a statement that assigns no fixed variable, and has fixed subscripts and loops; a loop's own variable is fixed in its body
  pub IsSteady : (Variable → Bool) → Stmt → Type 0
  IsSteady fixed (Assign x is a) = IsSteadyTarget fixed x is × IsSteadySource fixed a
  IsSteady fixed (Update x is op a) = IsSteadyTarget fixed x is × IsSteadyExpr fixed a
  IsSteady fixed (If c a) = IsSteadyCond fixed c × IsSteady fixed a
  IsSteady fixed (IfElse c a b) = IsSteadyCond fixed c × IsSteady fixed a × IsSteady fixed b
  IsSteady fixed (For x name start test step body) =
      (fixed x ≡ false) × IsFixedSource fixed start × IsFixedCond (also fixed x) test × IsFixedStep (also fixed x) x step
      × IsSteady (also fixed x) body
  IsSteady fixed (Block items) = AreSteady fixed items
  IsSteady fixed (Print parts) = AreSteadyParts fixed parts

  -- a block's items
  pub AreSteady : (Variable → Bool) → Items → Type 0
  AreSteady fixed no_items = Unit {0}
  AreSteady fixed (mark line rest) = AreSteady fixed rest
  AreSteady fixed (local x name start rest) = (fixed x ≡ false) × IsSteadyStart fixed start × AreSteady fixed rest
  AreSteady fixed (stmt a rest) = IsSteady fixed a × AreSteady fixed rest
