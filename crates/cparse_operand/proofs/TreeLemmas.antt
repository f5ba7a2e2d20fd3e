-- Lists in the tree.
use Rattle.std.proofs.Common.{◌≡◌, suc, List, [], ◌∷◌, ◌++◌, length, refl, ap}
use Rattle.semantics.specs.Tree
use Rattle.semantics.specs.Source.Scope.{count}
use Rattle.cparse_grammar.specs.ExpressionSteps.{and_one}
use Rattle.ktree.specs.View.{expr_of, exprs_of}
use Rattle.ktree.specs.declared.expression.Expr.{Expr}

-- as many subscripts as the list has
pub counted : (es : List Expr) → count (exprs_of es) ≡ length es
counted [] = refl
counted (e ∷ es) = ap suc (counted es)

-- one more subscript is one more in the list
pub and_one_of : (es : List Expr) (e : Expr) → exprs_of (es ++ e ∷ []) ≡ and_one (exprs_of es) (expr_of e)
and_one_of [] e = refl
and_one_of (x ∷ es) e = ap (Tree.more_exprs (expr_of x)) (and_one_of es e)
