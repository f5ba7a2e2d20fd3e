-- Statements in which updates of reduction variables are replaced by assignments of their operands. (C11 6.5.13 and 6.5.14; OpenMP 5.2, 5.5.8)
use Rattle.std.specs.Prelude.{ℕ, Bool, true, false, ◌≡◌, ◌==◌, ◌&&◌, ◌||◌, List, [], ◌∷◌, Option, Some, None}
use Rattle.std.proofs.Common.{refl, sym, ap, ◌∙◌, cond}
use Rattle.std.proofs.lemmas.Bool.{true≢false, and_from}
use Rattle.std.proofs.lemmas.Option.{none-some}
use Rattle.semantics.specs.Tree.{Variable, BinaryOp, Expr, Literal, Constant, Object, Unary, Binary, Conditional, Exprs, no_exprs, more_exprs, Cond, NotZero, Compare, Not, LogicalAnd, LogicalOr, Source, Number, Truth, Increment, Up, Down, Set, Change, PrintPart, Characters, Decimal, Stmt, Assign, Update, If, IfElse, For, Block, Print, Items, no_items, mark, local, stmt}
use Rattle.semantics.specs.Source.Token.{Token}
use Rattle.semantics.specs.Source.Scope.{Scope}
use Rattle.semantics.specs.Source.Expressions.{ReadsCond, both, either, cond_parens, cond_tighter}
use Rattle.semantics.specs.Meaning.Value.{both_then, operate}
use Rattle.semantics.specs.Meaning.Agrees.{names_expr, names_exprs, names_cond, names_source, names_start, names_step, names_parts}
use Rattle.semantics.specs.Loops.Operator.{ReduceOp}
use Rattle.semantics.proofs.EraseTokenLaw.{first_of, second_of}
use Rattle.affine.specs.declared.interval.Interval.{Interval}
use Rattle.affine.specs.declared.interval.Side.{Side}
use Rattle.nest_loop.specs.declared.head.Canonical.{Canonical}
use Rattle.nest_loop.specs.Canonical.{stepped, assigns as changes, assigns_among as changes_among}
use Rattle.nest_loop.specs.Loops.{IsLoop}
use Rattle.law_roles.specs.Updates.{operator_of, is_plain, sole, assigns, is_selected, is_choice, reduces, all_reduce, operand_by, operands, all_operands}
use Rattle.law_runs.proofs.There.{There}

-- ---- the second part of a condition

pub record IsRead (scope : Scope) (c : Cond) : Type 0 where
  pub order : ℕ
  pub level : ℕ
  pub tokens : List Token
  pub reads : ReadsCond scope order level tokens c

pub and_second : {scope : Scope} {o l : ℕ} {ts : List Token} {c d : Cond} → ReadsCond scope o l ts (LogicalAnd c d) → IsRead scope d
and_second (both r q) = record { order = _; level = _; tokens = _; reads = q }
and_second (cond_parens b r) = and_second r
and_second (cond_tighter r) = and_second r

pub or_second : {scope : Scope} {o l : ℕ} {ts : List Token} {c d : Cond} → ReadsCond scope o l ts (LogicalOr c d) → IsRead scope d
or_second (either r q) = record { order = _; level = _; tokens = _; reads = q }
or_second (cond_parens b r) = or_second r
or_second (cond_tighter r) = or_second r

-- the second part of an operation has a value where the operation has one
pub second_there : (op : BinaryOp) (o p : Option ℕ) → There (both_then (operate op) o p) → There p
second_there op None p t = absurd (none-some t.0 t.1)
second_there op (Some v) None t = absurd (none-some t.0 t.1)
second_there op (Some v) (Some w) t = (w, refl)

-- ---- what is assigned stays the same

module _ (rs : List (Variable × ReduceOp)) (y : Variable) where
  chosen_changes : (z : Variable) (e : Expr) (a : Stmt) → assigns z e (sole a) ≡ true → changes y (sole a) ≡ changes y a
  chosen_changes z e (Block (stmt a no_items)) h = chosen_changes z e a h ∙ nothing (changes y a)
    where
      nothing : (b : Bool) → b ≡ (b || false)
      nothing true = refl
      nothing false = refl
  chosen_changes z e (Block no_items) h = refl
  chosen_changes z e (Block (mark line rest)) h = refl
  chosen_changes z e (Block (local x name start rest)) h = refl
  chosen_changes z e (Block (stmt a (mark line rest))) h = refl
  chosen_changes z e (Block (stmt a (local x name start rest))) h = refl
  chosen_changes z e (Block (stmt a (stmt b rest))) h = refl
  chosen_changes z e (Assign x is d) h = refl
  chosen_changes z e (Update x is by d) h = refl
  chosen_changes z e (If c a) h = refl
  chosen_changes z e (IfElse c a b) h = refl
  chosen_changes z e (For x name start test step body) h = refl
  chosen_changes z e (Print parts) h = refl

  choice_changes : (c : Cond) (a : Stmt) → is_choice rs c a ≡ true → changes y (sole a) ≡ changes y a
  choice_changes (Compare by e (Object z no_exprs)) a h =
      chosen_changes z e a (second_of (is_selected (operator_of rs z) by) (assigns z e (sole a)) (first_of (is_selected (operator_of rs z) by && assigns z e (sole a)) (names_expr (is_plain rs) e) h))
  choice_changes _ a h = absurd (true≢false (sym h))

  mutual
    operands_change : (a : Stmt) → changes y (operands rs a) ≡ changes y a
    operands_change (Assign x no_exprs e) = refl
    operands_change (Assign x (more_exprs i is) e) = refl
    operands_change (Update x no_exprs by e) = at (operator_of rs x)
      where
        at : (o : Option ReduceOp) → changes y (operand_by o x by e) ≡ (x == y)
        at None = refl
        at (Some op) = refl
    operands_change (Update x (more_exprs i is) by e) = refl
    operands_change (If c a) = at (is_choice rs c a) refl (operands_change a)
      where
        at : (b : Bool) → is_choice rs c a ≡ b → changes y (operands rs a) ≡ changes y a → changes y (cond b (sole a) (If c (operands rs a))) ≡ changes y a
        at true h rest = choice_changes c a h
        at false h rest = rest
    operands_change (IfElse c a b) = λ i. operands_change a i || operands_change b i
    operands_change (For x name start test step body) = λ i. (stepped step == y) || operands_change body i
    operands_change (Block items) = all_operands_change items
    operands_change (Print parts) = refl

    all_operands_change : (items : Items) → changes_among y (all_operands rs items) ≡ changes_among y items
    all_operands_change no_items = refl
    all_operands_change (mark line rest) = all_operands_change rest
    all_operands_change (local x name start rest) = all_operands_change rest
    all_operands_change (stmt a rest) = λ i. operands_change a i || all_operands_change rest i

-- so a loop of operands is a loop as before
pub operand_loop : (rs : List (Variable × ReduceOp)) (box : List Side) (x : Variable) (start : Source) (test : Cond) (step : Increment) (body : Stmt) (l : Canonical) (i : Interval)
    → IsLoop box x start test step body l i → IsLoop box x start test step (operands rs body) l i
operand_loop rs box x start test step body l i loop = record { few = loop.few; form = loop.form; stays = loop.stays; numbers = loop.numbers; kept = operands_change rs x body ∙ loop.kept }

-- ---- without reductions nothing is replaced

mutual
  expr_plain : (e : Expr) → names_expr (is_plain []) e ≡ true
  expr_plain (Literal n suffix) = refl
  expr_plain (Constant name n) = refl
  expr_plain (Object x is) = exprs_plain is
  expr_plain (Unary op a) = expr_plain a
  expr_plain (Binary op a b) = and_from (names_expr (is_plain []) a) (names_expr (is_plain []) b) (expr_plain a) (expr_plain b)
  expr_plain (Conditional c a b) =
      and_from (names_cond (is_plain []) c && names_expr (is_plain []) a) (names_expr (is_plain []) b) (and_from (names_cond (is_plain []) c) (names_expr (is_plain []) a) (cond_plain c) (expr_plain a)) (expr_plain b)

  exprs_plain : (es : Exprs) → names_exprs (is_plain []) es ≡ true
  exprs_plain no_exprs = refl
  exprs_plain (more_exprs e es) = and_from (names_expr (is_plain []) e) (names_exprs (is_plain []) es) (expr_plain e) (exprs_plain es)

  cond_plain : (c : Cond) → names_cond (is_plain []) c ≡ true
  cond_plain (NotZero e) = expr_plain e
  cond_plain (Compare op a b) = and_from (names_expr (is_plain []) a) (names_expr (is_plain []) b) (expr_plain a) (expr_plain b)
  cond_plain (Not c) = cond_plain c
  cond_plain (LogicalAnd c d) = and_from (names_cond (is_plain []) c) (names_cond (is_plain []) d) (cond_plain c) (cond_plain d)
  cond_plain (LogicalOr c d) = and_from (names_cond (is_plain []) c) (names_cond (is_plain []) d) (cond_plain c) (cond_plain d)

source_plain : (e : Source) → names_source (is_plain []) e ≡ true
source_plain (Number e) = expr_plain e
source_plain (Truth c) = cond_plain c

start_plain : (start : Option Source) → names_start (is_plain []) start ≡ true
start_plain None = refl
start_plain (Some e) = source_plain e

step_plain : (step : Increment) → names_step (is_plain []) step ≡ true
step_plain (Up x) = refl
step_plain (Down x) = refl
step_plain (Set x e) = source_plain e
step_plain (Change x op e) = expr_plain e

parts_plain : (parts : List PrintPart) → names_parts (is_plain []) parts ≡ true
parts_plain [] = refl
parts_plain (Characters bs ∷ ps) = parts_plain ps
parts_plain (Decimal e ∷ ps) = and_from (names_expr (is_plain []) e) (names_parts (is_plain []) ps) (expr_plain e) (parts_plain ps)

none_chosen : (c : Cond) (a : Stmt) → is_choice [] c a ≡ false
none_chosen (Compare by e (Object z no_exprs)) a = refl
none_chosen (Compare by e (Object z (more_exprs i is))) a = refl
none_chosen (Compare by e (Literal n suffix)) a = refl
none_chosen (Compare by e (Constant name n)) a = refl
none_chosen (Compare by e (Unary op b)) a = refl
none_chosen (Compare by e (Binary op b c)) a = refl
none_chosen (Compare by e (Conditional c b d)) a = refl
none_chosen (NotZero e) a = refl
none_chosen (Not c) a = refl
none_chosen (LogicalAnd c d) a = refl
none_chosen (LogicalOr c d) a = refl

mutual
  pub plain_reduces : (a : Stmt) → reduces [] a ≡ true
  plain_reduces (Assign x no_exprs e) = source_plain e
  plain_reduces (Assign x (more_exprs i is) e) = and_from (names_exprs (is_plain []) (more_exprs i is)) (names_source (is_plain []) e) (exprs_plain (more_exprs i is)) (source_plain e)
  plain_reduces (Update x no_exprs by e) = expr_plain e
  plain_reduces (Update x (more_exprs i is) by e) = and_from (names_exprs (is_plain []) (more_exprs i is)) (names_expr (is_plain []) e) (exprs_plain (more_exprs i is)) (expr_plain e)
  plain_reduces (If c a) = ap (λ b. b || (names_cond (is_plain []) c && reduces [] a)) (none_chosen c a) ∙ and_from (names_cond (is_plain []) c) (reduces [] a) (cond_plain c) (plain_reduces a)
  plain_reduces (IfElse c a b) =
      and_from (names_cond (is_plain []) c && reduces [] a) (reduces [] b) (and_from (names_cond (is_plain []) c) (reduces [] a) (cond_plain c) (plain_reduces a)) (plain_reduces b)
  plain_reduces (For x name start test step body) =
      and_from (names_source (is_plain []) start && names_cond (is_plain []) test && names_step (is_plain []) step) (reduces [] body)
      (and_from (names_source (is_plain []) start && names_cond (is_plain []) test) (names_step (is_plain []) step) (and_from (names_source (is_plain []) start) (names_cond (is_plain []) test) (source_plain start) (cond_plain test)) (step_plain step))
      (plain_reduces body)
  plain_reduces (Block items) = all_plain_reduce items
  plain_reduces (Print parts) = parts_plain parts

  pub all_plain_reduce : (items : Items) → all_reduce [] items ≡ true
  all_plain_reduce no_items = refl
  all_plain_reduce (mark line rest) = all_plain_reduce rest
  all_plain_reduce (local x name start rest) = and_from (names_start (is_plain []) start) (all_reduce [] rest) (start_plain start) (all_plain_reduce rest)
  all_plain_reduce (stmt a rest) = and_from (reduces [] a) (all_reduce [] rest) (plain_reduces a) (all_plain_reduce rest)

mutual
  plain_operands : (a : Stmt) → operands [] a ≡ a
  plain_operands (Assign x no_exprs e) = refl
  plain_operands (Assign x (more_exprs i is) e) = refl
  plain_operands (Update x no_exprs by e) = refl
  plain_operands (Update x (more_exprs i is) by e) = refl
  plain_operands (If c a) = ap (λ b. cond b (sole a) (If c (operands [] a))) (none_chosen c a) ∙ ap (If c) (plain_operands a)
  plain_operands (IfElse c a b) = λ i. IfElse c (plain_operands a i) (plain_operands b i)
  plain_operands (For x name start test step body) = ap (For x name start test step) (plain_operands body)
  plain_operands (Block items) = ap Block (all_plain_operands items)
  plain_operands (Print parts) = refl

  pub all_plain_operands : (items : Items) → all_operands [] items ≡ items
  all_plain_operands no_items = refl
  all_plain_operands (mark line rest) = ap (mark line) (all_plain_operands rest)
  all_plain_operands (local x name start rest) = ap (local x name start) (all_plain_operands rest)
  all_plain_operands (stmt a rest) = λ i. stmt (plain_operands a i) (all_plain_operands rest i)
