-- What an update is made of, as the code takes it apart.
use Rattle.std.specs.Prelude.{Bool, false, ◌==◌, ◌&&◌, List, Option, Some, None}
use Rattle.semantics.specs.Tree.{Variable, no_exprs, CompareOp, Expr, Object, Cond, NotZero, Stmt}
use Rattle.semantics.specs.Meaning.Agrees.{names_expr}
use Rattle.semantics.specs.Loops.Operator.{ReduceOp}
use Rattle.law_roles.specs.Updates.{operator_of, is_plain, is_selected, assigns, sole}

-- the variable that an expression names alone
abbrev pub scalar_of : Expr → Option Variable
scalar_of (Object x no_exprs) = Some x
scalar_of _ = None

-- it is this variable
abbrev pub is_the : Variable → Option Variable → Bool
is_the x None = false
is_the x (Some y) = y == x

-- a condition that is this variable alone
abbrev pub tests : Variable → Cond → Bool
tests x (NotZero e) = is_the x (scalar_of e)
tests x _ = false

-- if (e < s) s = e; or if (e > s) s = e; where s is the scalar on the right of the comparison
abbrev pub chooses : List (Variable × ReduceOp) → CompareOp → Expr → Option Variable → Stmt → Bool
chooses rs by e None a = false
chooses rs by e (Some x) a = is_selected (operator_of rs x) by && assigns x e (sole a) && names_expr (is_plain rs) e
