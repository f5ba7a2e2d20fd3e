-- Variables that stand in expressions.
use Rattle.std.specs.Prelude.{Bool, false, ◌==◌, ◌||◌}
use Rattle.semantics.specs.Tree.{Variable, Expr, Literal, Constant, Object, Unary, Binary, Conditional, Exprs, no_exprs, more_exprs, Cond, NotZero, Compare, Not, LogicalAnd, LogicalOr, Source, Number, Truth}

abbrev mutual
  -- a variable stands in an expression
  pub mentions : Variable → Expr → Bool
  mentions x (Literal n suffix) = false
  mentions x (Constant name n) = false
  mentions x (Object y is) = y == x || mentions_among x is
  mentions x (Unary op a) = mentions x a
  mentions x (Binary op a b) = mentions x a || mentions x b
  mentions x (Conditional c a b) = (mentions_cond x c || mentions x a) || mentions x b

  -- in one of some subscripts
  pub mentions_among : Variable → Exprs → Bool
  mentions_among x no_exprs = false
  mentions_among x (more_exprs e es) = mentions x e || mentions_among x es

  -- in a condition
  pub mentions_cond : Variable → Cond → Bool
  mentions_cond x (NotZero e) = mentions x e
  mentions_cond x (Compare op a b) = mentions x a || mentions x b
  mentions_cond x (Not c) = mentions_cond x c
  mentions_cond x (LogicalAnd c d) = mentions_cond x c || mentions_cond x d
  mentions_cond x (LogicalOr c d) = mentions_cond x c || mentions_cond x d

-- in a right side
abbrev pub mentions_source : Variable → Source → Bool
mentions_source x (Number e) = mentions x e
mentions_source x (Truth c) = mentions_cond x c
