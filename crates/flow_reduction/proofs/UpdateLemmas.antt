-- What is no update by its form: an element, and a block of several items.
use Rattle.std.specs.Prelude.{false, ◌&&◌, ◌≡◌, ◌<◌, ◌≤◌, List, [], ◌∷◌, length, Some, None}
use Rattle.std.proofs.Common.{refl, arith}
use Rattle.semantics.specs.Tree
use Rattle.semantics.specs.Tree.{Variable}
use Rattle.semantics.specs.Meaning.Agrees.{names_expr, names_exprs, names_source}
use Rattle.semantics.specs.Loops.Operator.{ReduceOp}
use Rattle.law_roles.specs.Updates.{is_plain, assigns, sole, reduces}
use Rattle.ktree.specs.View.{exprs_of, items_of, with_item}
use Rattle.ktree.specs.declared.expression.Expr.{Expr}
use Rattle.ktree.specs.declared.statement.Item.{Item, Directive, Local, Statement'}
use Rattle.flow_reduction.specs.Updates.{scalar_of}

-- a scalar stands alone
pub scalar_is : (x : Variable) (es : List Expr) → length es ≡ 0 → Some x ≡ scalar_of (Tree.Object x (exprs_of es))
scalar_is x [] p = refl
scalar_is x (e ∷ es) p = absurd (omega arith)

-- an element is none
pub element_is : (x : Variable) (es : List Expr) → 0 < length es → None ≡ scalar_of (Tree.Object x (exprs_of es))
element_is x [] p = absurd (omega arith)
element_is x (e ∷ es) p = refl

-- an element is assigned
pub element_assigned : (x y : Variable) (e : Tree.Expr) (es : List Expr) (a : Tree.Source) → 0 < length es → false ≡ assigns x e (Tree.Assign y (exprs_of es) a)
element_assigned x y e [] a p = absurd (omega arith)
element_assigned x y e (i ∷ is) a p = refl

two_items : (x : Variable) (e : Tree.Expr) (i j : Item) (rest : Tree.Items) → false ≡ assigns x e (sole (Tree.Block (with_item i (with_item j rest))))
two_items x e (Directive place) j rest = refl
two_items x e (Local l) j rest = refl
two_items x e (Statement' p s) (Directive place) rest = refl
two_items x e (Statement' p s) (Local l) rest = refl
two_items x e (Statement' p s) (Statement' q t) rest = refl

-- a block of two items or more is no assignment
pub no_sole : (x : Variable) (e : Tree.Expr) (is : List Item) → 2 ≤ length is → false ≡ assigns x e (sole (Tree.Block (items_of is)))
no_sole x e [] le = absurd (omega arith)
no_sole x e (i ∷ []) le = absurd (omega arith)
no_sole x e (i ∷ j ∷ is) le = two_items x e i j (items_of is)

module _ (rs : List (Variable × ReduceOp)) (x : Variable) where
  -- an assignment to an element is no update
  pub element_plain : (es : List Expr) (a : Tree.Source) → 0 < length es
      → reduces rs (Tree.Assign x (exprs_of es) a) ≡ (is_plain rs x && names_exprs (is_plain rs) (exprs_of es) && names_source (is_plain rs) a)
  element_plain [] a p = absurd (omega arith)
  element_plain (e ∷ es) a p = refl

  -- nor is op=
  pub element_changed : (es : List Expr) (by : Tree.BinaryOp) (a : Tree.Expr) → 0 < length es
      → reduces rs (Tree.Update x (exprs_of es) by a) ≡ (is_plain rs x && names_exprs (is_plain rs) (exprs_of es) && names_expr (is_plain rs) a)
  element_changed [] by a p = absurd (omega arith)
  element_changed (e ∷ es) by a p = refl
