-- Names that are visible where more is, and those of what is fixed.
use Rattle.std.specs.Prelude.{Bool, true, false, ◌≡◌, ◌==◌, ◌&&◌, ◌||◌, List, [], ◌∷◌, Option, Some, None}
use Rattle.std.proofs.Common.{refl, ap, ◌∙◌}
use Rattle.std.proofs.lemmas.Bool.{and_from}
use Rattle.semantics.specs.Tree.{Variable, Expr, Literal, Constant, Object, Unary, Binary, Conditional, Exprs, no_exprs, more_exprs, Cond, NotZero, Compare, Not, LogicalAnd, LogicalOr, Source, Number, Truth, Increment, Up, Down, Set, Change, PrintPart, Characters, Decimal, Stmt, Assign, Update, If, IfElse, For, Block, Print, Items, no_items, mark, local, stmt}
use Rattle.semantics.specs.Meaning.Definite.{may_step}
use Rattle.semantics.specs.Meaning.Agrees.{also, names_expr, names_exprs, names_cond, names_source, names_start, names_step, names_parts, names_only, names_items}
use Rattle.law_commute.specs.Steady.{IsFixedExpr, IsFixedCond, IsFixedSource, IsFixedStep}
use Rattle.law_commute.proofs.Values.{first_of, second_of}
use Rattle.law_private.specs.Known.{IsWithin}
use Rattle.law_private.proofs.Alike.{may_names, may_names_source}

pub both_true : (a b c d : Bool) → (a ≡ true → c ≡ true) → (b ≡ true → d ≡ true) → (a && b) ≡ true → (c && d) ≡ true
both_true a b c d one two h = and_from c d (one (first_of a b h)) (two (second_of a b h))

pub also_within : (V W : Variable → Bool) (x : Variable) → IsWithin V W → IsWithin (also V x) (also W x)
also_within V W x more y h = at (y == x) h
  where
    at : (b : Bool) → (b || V y) ≡ true → (b || W y) ≡ true
    at true e = refl
    at false e = more y e

module _ (V W : Variable → Bool) (more : IsWithin V W) where
  mutual
    pub expr_more : (e : Expr) → names_expr V e ≡ true → names_expr W e ≡ true
    expr_more (Literal n suffix) h = refl
    expr_more (Constant name n) h = refl
    expr_more (Object x is) h = both_true (V x) (names_exprs V is) (W x) (names_exprs W is) (more x) (exprs_more is) h
    expr_more (Unary op a) h = expr_more a h
    expr_more (Binary op a b) h = both_true (names_expr V a) (names_expr V b) (names_expr W a) (names_expr W b) (expr_more a) (expr_more b) h
    expr_more (Conditional c a b) h =
        both_true (names_cond V c && names_expr V a) (names_expr V b) (names_cond W c && names_expr W a) (names_expr W b)
        (both_true (names_cond V c) (names_expr V a) (names_cond W c) (names_expr W a) (cond_more c) (expr_more a)) (expr_more b) h

    pub exprs_more : (es : Exprs) → names_exprs V es ≡ true → names_exprs W es ≡ true
    exprs_more no_exprs h = refl
    exprs_more (more_exprs e es) h = both_true (names_expr V e) (names_exprs V es) (names_expr W e) (names_exprs W es) (expr_more e) (exprs_more es) h

    pub cond_more : (c : Cond) → names_cond V c ≡ true → names_cond W c ≡ true
    cond_more (NotZero e) h = expr_more e h
    cond_more (Compare op a b) h = both_true (names_expr V a) (names_expr V b) (names_expr W a) (names_expr W b) (expr_more a) (expr_more b) h
    cond_more (Not c) h = cond_more c h
    cond_more (LogicalAnd c d) h = both_true (names_cond V c) (names_cond V d) (names_cond W c) (names_cond W d) (cond_more c) (cond_more d) h
    cond_more (LogicalOr c d) h = both_true (names_cond V c) (names_cond V d) (names_cond W c) (names_cond W d) (cond_more c) (cond_more d) h

  pub source_more : (e : Source) → names_source V e ≡ true → names_source W e ≡ true
  source_more (Number e) h = expr_more e h
  source_more (Truth c) h = cond_more c h

  start_more : (start : Option Source) → names_start V start ≡ true → names_start W start ≡ true
  start_more None h = refl
  start_more (Some e) h = source_more e h

  pub step_more : (step : Increment) → names_step V step ≡ true → names_step W step ≡ true
  step_more (Up x) h = more x h
  step_more (Down x) h = more x h
  step_more (Set x e) h = both_true (V x) (names_source V e) (W x) (names_source W e) (more x) (source_more e) h
  step_more (Change x op e) h = both_true (V x) (names_expr V e) (W x) (names_expr W e) (more x) (expr_more e) h

  pub parts_more : (parts : List PrintPart) → names_parts V parts ≡ true → names_parts W parts ≡ true
  parts_more [] h = refl
  parts_more (Characters bs ∷ ps) h = parts_more ps h
  parts_more (Decimal e ∷ ps) h = both_true (names_expr V e) (names_parts V ps) (names_expr W e) (names_parts W ps) (expr_more e) (parts_more ps) h

mutual
  pub names_more : (a : Stmt) (V W : Variable → Bool) → IsWithin V W → names_only V a ≡ true → names_only W a ≡ true
  names_more (Assign x is e) V W more h =
      both_true (V x && names_exprs V is) (names_source V e) (W x && names_exprs W is) (names_source W e)
      (both_true (V x) (names_exprs V is) (W x) (names_exprs W is) (more x) (exprs_more V W more is)) (source_more V W more e) h
  names_more (Update x is op e) V W more h =
      both_true (V x && names_exprs V is) (names_expr V e) (W x && names_exprs W is) (names_expr W e)
      (both_true (V x) (names_exprs V is) (W x) (names_exprs W is) (more x) (exprs_more V W more is)) (expr_more V W more e) h
  names_more (If c a) V W more h = both_true (names_cond V c) (names_only V a) (names_cond W c) (names_only W a) (cond_more V W more c) (names_more a V W more) h
  names_more (IfElse c a b) V W more h =
      both_true (names_cond V c && names_only V a) (names_only V b) (names_cond W c && names_only W a) (names_only W b)
      (both_true (names_cond V c) (names_only V a) (names_cond W c) (names_only W a) (cond_more V W more c) (names_more a V W more)) (names_more b V W more) h
  names_more (For x name start test step body) V W more h =
      let also_more = also_within V W x more in
      both_true (names_source V start && names_cond (also V x) test && names_step (also V x) step) (names_only (also V x) body)
      (names_source W start && names_cond (also W x) test && names_step (also W x) step) (names_only (also W x) body)
      (both_true (names_source V start && names_cond (also V x) test) (names_step (also V x) step) (names_source W start && names_cond (also W x) test) (names_step (also W x) step)
      (both_true (names_source V start) (names_cond (also V x) test) (names_source W start) (names_cond (also W x) test) (source_more V W more start) (cond_more (also V x) (also W x) also_more test))
      (step_more (also V x) (also W x) also_more step))
      (names_more body (also V x) (also W x) also_more) h
  names_more (Block items) V W more h = items_more items V W more h
  names_more (Print parts) V W more h = parts_more V W more parts h

  items_more : (items : Items) (V W : Variable → Bool) → IsWithin V W → names_items V items ≡ true → names_items W items ≡ true
  items_more no_items V W more h = refl
  items_more (mark line rest) V W more h = items_more rest V W more h
  items_more (local x name start rest) V W more h =
      both_true (names_start V start) (names_items (also V x) rest) (names_start W start) (names_items (also W x) rest) (start_more V W more start)
      (items_more rest (also V x) (also W x) (also_within V W x more)) h
  items_more (stmt a rest) V W more h = both_true (names_only V a) (names_items V rest) (names_only W a) (names_items W rest) (names_more a V W more) (items_more rest V W more) h

-- ---- what is fixed names what is fixed

module _ (F : Variable → Bool) where
  mutual
    pub fixed_expr : (e : Expr) → IsFixedExpr F e → names_expr F e ≡ true
    fixed_expr (Literal n suffix) h = refl
    fixed_expr (Constant name n) h = refl
    fixed_expr (Object x no_exprs) h = and_from (F x) true h refl
    fixed_expr (Object x (more_exprs i is)) h = absurd h
    fixed_expr (Unary op a) h = fixed_expr a h
    fixed_expr (Binary op a b) h = and_from (names_expr F a) (names_expr F b) (fixed_expr a h.0) (fixed_expr b h.1)
    fixed_expr (Conditional c a b) h =
        and_from (names_cond F c && names_expr F a) (names_expr F b) (and_from (names_cond F c) (names_expr F a) (fixed_cond c h.0) (fixed_expr a h.1)) (fixed_expr b h.2)

    pub fixed_cond : (c : Cond) → IsFixedCond F c → names_cond F c ≡ true
    fixed_cond (NotZero e) h = fixed_expr e h
    fixed_cond (Compare op a b) h = and_from (names_expr F a) (names_expr F b) (fixed_expr a h.0) (fixed_expr b h.1)
    fixed_cond (Not c) h = fixed_cond c h
    fixed_cond (LogicalAnd c d) h = and_from (names_cond F c) (names_cond F d) (fixed_cond c h.0) (fixed_cond d h.1)
    fixed_cond (LogicalOr c d) h = and_from (names_cond F c) (names_cond F d) (fixed_cond c h.0) (fixed_cond d h.1)

  pub fixed_named : (e : Source) → IsFixedSource F e → names_source F e ≡ true
  fixed_named (Number e) h = fixed_expr e h
  fixed_named (Truth c) h = fixed_cond c h

  pub fixed_stepped : (x : Variable) (step : Increment) → F x ≡ true → IsFixedStep F x step → names_step F step ≡ true
  fixed_stepped x (Up y) there h = ap F h ∙ there
  fixed_stepped x (Down y) there h = ap F h ∙ there
  fixed_stepped x (Set y e) there h = and_from (F y) (names_source F e) (ap F h.0 ∙ there) (fixed_named e h.1)
  fixed_stepped x (Change y op e) there h = and_from (F y) (names_expr F e) (ap F h.0 ∙ there) (fixed_expr e h.1)

-- a step reads no more than it names
pub named_step : (k : Variable → Bool) (step : Increment) → names_step k step ≡ true → may_step k step ≡ true
named_step k (Up x) h = h
named_step k (Down x) h = h
named_step k (Set x e) h = may_names_source k e ∙ second_of (k x) (names_source k e) h
named_step k (Change x op e) h = ap (λ b. k x && b) (may_names k e) ∙ h
