-- An object that leaves its array does not stay inside.
use Rattle.std.specs.Prelude.{ℕ, List, [], ◌∷◌, Option, Some, None, slice_get}
use Rattle.std.proofs.Common.{inl, inr, subst}
use Rattle.semantics.specs.Tree.{Variable, Expr, Literal, Constant, Object, Unary, Binary, Conditional, Exprs, no_exprs, more_exprs, Cond, NotZero, Compare, Not, LogicalAnd, LogicalOr, Source, Number, Truth, PrintPart, Characters, Decimal, Stmt, Assign, Update, If, IfElse, For, Block, Print, Items, no_items, mark, local, stmt}
use Rattle.affine.specs.declared.interval.Side.{Side}
use Rattle.affine.specs.Affine.{Affine}
use Rattle.affine_expr.specs.Forms.{form_of}
use Rattle.nest_loop.specs.Loops.{inside}
use Rattle.nest_loop.proofs.Laws.{loop_is_unique}
use Rattle.nest.specs.Nests.{Asked, ExprHas, CondHas, SourceHas, StartHas, PartsHave, Has, Have, StaysBelow, AllStay, lengths_of, StaysInside}
use Rattle.nest.specs.Leaves.{ExprMeets, CondMeets, SourceMeets, StartMeets, PartsMeet, Meets, Meet, LeavesDimension, SomeLeaves, LeavesArray}
use Rattle.ranges.specs.Laws.{LeavingIsNotInRange}

module _ (P Q : Asked) (apart : (box : List Side) (x : Variable) (is : Exprs) → Q box x is → P box x is → ⊥) where
  mutual
    expr_apart : (box : List Side) (e : Expr) → ExprMeets Q box e → ExprHas P box e → ⊥
    expr_apart box (Literal n suffix) q p = q
    expr_apart box (Constant name n) q p = q
    expr_apart box (Object x is) q p = apart box x is q p
    expr_apart box (Unary op a) q p = expr_apart box a q p
    expr_apart box (Binary op a b) (inl q) p = expr_apart box a q p.0
    expr_apart box (Binary op a b) (inr q) p = expr_apart box b q p.1
    expr_apart box (Conditional c a b) (inl q) p = cond_apart box c q p.0
    expr_apart box (Conditional c a b) (inr (inl q)) p = expr_apart box a q p.1
    expr_apart box (Conditional c a b) (inr (inr q)) p = expr_apart box b q p.2

    cond_apart : (box : List Side) (c : Cond) → CondMeets Q box c → CondHas P box c → ⊥
    cond_apart box (NotZero e) q p = expr_apart box e q p
    cond_apart box (Compare op a b) (inl q) p = expr_apart box a q p.0
    cond_apart box (Compare op a b) (inr q) p = expr_apart box b q p.1
    cond_apart box (Not c) q p = cond_apart box c q p
    cond_apart box (LogicalAnd c d) (inl q) p = cond_apart box c q p.0
    cond_apart box (LogicalAnd c d) (inr q) p = cond_apart box d q p.1
    cond_apart box (LogicalOr c d) (inl q) p = cond_apart box c q p.0
    cond_apart box (LogicalOr c d) (inr q) p = cond_apart box d q p.1

  source_apart : (box : List Side) (e : Source) → SourceMeets Q box e → SourceHas P box e → ⊥
  source_apart box (Number e) q p = expr_apart box e q p
  source_apart box (Truth c) q p = cond_apart box c q p

  start_apart : (box : List Side) (o : Option Source) → StartMeets Q box o → StartHas P box o → ⊥
  start_apart box None q p = q
  start_apart box (Some e) q p = source_apart box e q p

  parts_apart : (box : List Side) (ps : List PrintPart) → PartsMeet Q box ps → PartsHave P box ps → ⊥
  parts_apart box [] q p = q
  parts_apart box (Characters bs ∷ ps) q p = parts_apart box ps q p
  parts_apart box (Decimal e ∷ ps) (inl q) p = expr_apart box e q p.0
  parts_apart box (Decimal e ∷ ps) (inr q) p = parts_apart box ps q p.1

  mutual
    statement_apart : (box : List Side) (s : Stmt) → Meets Q box s → Has P box s → ⊥
    statement_apart box (Assign x is e) (inl q) p = apart box x is q p.0
    statement_apart box (Assign x is e) (inr q) p = source_apart box e q p.1
    statement_apart box (Update x is op e) (inl q) p = apart box x is q p.0
    statement_apart box (Update x is op e) (inr q) p = expr_apart box e q p.1
    statement_apart box (If c a) (inl q) p = cond_apart box c q p.0
    statement_apart box (If c a) (inr q) p = statement_apart box a q p.1
    statement_apart box (IfElse c a b) (inl q) p = cond_apart box c q p.0
    statement_apart box (IfElse c a b) (inr (inl q)) p = statement_apart box a q p.1
    statement_apart box (IfElse c a b) (inr (inr q)) p = statement_apart box b q p.2
    statement_apart box (For x name start test step body) (l, i, is, q) (m, j, other, p) =
        let same = loop_is_unique box x start test step body m l j i other is in
        statement_apart (inside box x i) body q (subst (λ k. Has P (inside box x k) body) same.1 p)
    statement_apart box (Block items) q p = items_apart box items q p
    statement_apart box (Print parts) q p = parts_apart box parts q p

    pub items_apart : (box : List Side) (items : Items) → Meet Q box items → Have P box items → ⊥
    items_apart box no_items q p = q
    items_apart box (mark line rest) q p = items_apart box rest q p
    items_apart box (local x name start rest) (inl q) p = start_apart box start q p.0
    items_apart box (local x name start rest) (inr q) p = items_apart box rest q p.1
    items_apart box (stmt s rest) (inl q) p = statement_apart box s q p.0
    items_apart box (stmt s rest) (inr q) p = items_apart box rest q p.1

-- a subscript that leaves its dimension
dimension_apart : (box : List Side) (n : ℕ) (o : Option Affine) → LeavesDimension box n o → StaysBelow box n o → ⊥
dimension_apart box n None q p = q
dimension_apart box n (Some f) (values, within, leaves) p = leaves (p values within)

subscripts_apart : (box : List Side) (ns : List ℕ) (is : Exprs) → SomeLeaves box ns is → AllStay box ns is → ⊥
subscripts_apart box [] no_exprs q p = q
subscripts_apart box (n ∷ ns) (more_exprs e es) (inl q) p = dimension_apart box n (form_of box e) q p.0
subscripts_apart box (n ∷ ns) (more_exprs e es) (inr q) p = subscripts_apart box ns es q p.1
subscripts_apart box [] (more_exprs e es) q p = p
subscripts_apart box (n ∷ ns) no_exprs q p = p

pub leaving_is_not_in_range : LeavingIsNotInRange
leaving_is_not_in_range k q p =
    items_apart (StaysInside k.variables) (LeavesArray k.variables) (λ box x is. subscripts_apart box (lengths_of (slice_get k.variables x)) is) [] k.body q p
