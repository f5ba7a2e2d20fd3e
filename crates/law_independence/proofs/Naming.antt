-- What the grammar lets a statement name is visible round it, or declared in it and before. (C11 6.2.1)
use Rattle.std.specs.Prelude.{ℕ, Bool, true, false, ◌≡◌, ◌==◌, ◌&&◌, ◌||◌, List, [], ◌∷◌, Option, Some, None}
use Rattle.std.proofs.Common.{refl, sym, ap, ◌∙◌, subst, cond}
use Rattle.std.proofs.lemmas.Bool.{eqb-true, and_from, or_right, true≢false}
use Rattle.semantics.specs.Tree.{Variable, Expr, Literal, Constant, Object, Unary, Binary, Conditional, Exprs, no_exprs, more_exprs, Cond, NotZero, Compare, Not, LogicalAnd, LogicalOr, Source, Number, Truth, Increment, PrintPart, Characters, Decimal, Stmt, Items}
use Rattle.semantics.specs.Source.Token.{Token}
use Rattle.semantics.specs.Source.Scope.{Scope, Entity, AVariable, AConstant, count}
use Rattle.semantics.specs.Source.Expressions.{ReadsExpr, literal, enumerator, object, parens, unary, binary, choose, tighter, ReadsSubscripts, no_subscripts, subscript, ReadsCond, numeric, cond_parens, not, compare, both, either, cond_tighter}
use Rattle.semantics.specs.Source.Statements.{ReadsSource, number, truth, ReadsTarget, target, ReadsIncrement, up_before, up_behind, down_before, down_behind, set, change, ReadsArguments, argument, Fills, ReadsStmt, assign, update, if_only, if_else, for_loop, block, print, ReadsItems, no_more, line, empty_local, first_local, statement}
use Rattle.semantics.specs.Meaning.Definite.{DefinitelyAssigned, may_read, may_read_all, may_test, may_take}
use Rattle.semantics.specs.Meaning.Agrees.{also, names_expr, names_exprs, names_cond, names_source, names_step, names_parts, names_only, names_items}
use Rattle.semantics.proofs.EraseTokenLaw.{first_of, second_of}
use Rattle.affine.specs.declared.interval.Interval.{Interval}
use Rattle.affine.specs.declared.interval.Side.{Side}
use Rattle.affine_expr.specs.Forms.{is_counter}
use Rattle.nest_loop.specs.Constants.{Each}
use Rattle.nest_loop.specs.Loops.{inside}
use Rattle.nest_loop.proofs.Visible.{each_found, each_weaker}
use Rattle.nest_loop.proofs.Heads.{head_of}
use Rattle.nest.specs.Nests.{Has, Have, Asked}
use Rattle.law_commute.specs.Steady.{IsFixedExpr, IsFixedCond}
use Rattle.law_independence.proofs.Fixed.{form_fixed, own_fixed}
use Rattle.law_independence.proofs.Starts.{StartsNameOthers, AllNameOthers}

-- a visible name's variable may be named
abbrev pub IsNamed : (Variable → Bool) → Entity → Type 0
IsNamed V (AVariable x n) = V x ≡ true
IsNamed V (AConstant n) = Unit {0}

three : (a b c : Bool) → a ≡ true → b ≡ true → c ≡ true → (a && b && c) ≡ true
three a b c p q r = and_from (a && b) c (and_from a b p q) r

-- ---- expressions

module _ (V : Variable → Bool) (scope : Scope) (seen : Each (IsNamed V) scope) where
  mutual
    expr_named : {o l : ℕ} {ts : List Token} {e : Expr} → ReadsExpr scope o l ts e → names_expr V e ≡ true
    expr_named (literal r) = refl
    expr_named (enumerator f) = refl
    expr_named (object {name = name} {x = x} {is = is} f r) = and_from (V x) (names_exprs V is) (each_found (IsNamed V) scope name (AVariable x (count is)) seen f) (subscripts_named r)
    expr_named (parens less r) = expr_named r
    expr_named (unary less sign t r) = expr_named r
    expr_named (binary {a = a} {b = b} sign f r q) = and_from (names_expr V a) (names_expr V b) (expr_named r) (expr_named q)
    expr_named (choose {c = c} {a = a} {b = b} less t r q) = three (names_cond V c) (names_expr V a) (names_expr V b) (cond_named t) (expr_named r) (expr_named q)
    expr_named (tighter r) = expr_named r

    subscripts_named : {o : ℕ} {ts : List Token} {is : Exprs} → ReadsSubscripts scope o ts is → names_exprs V is ≡ true
    subscripts_named no_subscripts = refl
    subscripts_named (subscript {e = e} {is = is} less r q) = and_from (names_expr V e) (names_exprs V is) (expr_named r) (subscripts_named q)

    cond_named : {o l : ℕ} {ts : List Token} {c : Cond} → ReadsCond scope o l ts c → names_cond V c ≡ true
    cond_named (numeric r) = expr_named r
    cond_named (cond_parens less r) = cond_named r
    cond_named (not less r) = cond_named r
    cond_named (compare {a = a} {b = b} sign f r q) = and_from (names_expr V a) (names_expr V b) (expr_named r) (expr_named q)
    cond_named (both {c = c} {d = d} r q) = and_from (names_cond V c) (names_cond V d) (cond_named r) (cond_named q)
    cond_named (either {c = c} {d = d} r q) = and_from (names_cond V c) (names_cond V d) (cond_named r) (cond_named q)
    cond_named (cond_tighter r) = cond_named r

  source_named : {o : ℕ} {ts : List Token} {e : Source} → ReadsSource scope o ts e → names_source V e ≡ true
  source_named (number r) = expr_named r
  source_named (truth t r) = cond_named r

  target_named : {o : ℕ} {ts : List Token} {x : Variable} {is : Exprs} → ReadsTarget scope o ts x is → (V x && names_exprs V is) ≡ true
  target_named (target {name = name} {x = x} {is = is} f r) = and_from (V x) (names_exprs V is) (each_found (IsNamed V) scope name (AVariable x (count is)) seen f) (subscripts_named r)

  step_named : {o : ℕ} {ts : List Token} {step : Increment} → ReadsIncrement scope o ts step → names_step V step ≡ true
  step_named (up_before {name = name} {x = x} f) = each_found (IsNamed V) scope name (AVariable x 0) seen f
  step_named (up_behind {name = name} {x = x} f) = each_found (IsNamed V) scope name (AVariable x 0) seen f
  step_named (down_before {name = name} {x = x} f) = each_found (IsNamed V) scope name (AVariable x 0) seen f
  step_named (down_behind {name = name} {x = x} f) = each_found (IsNamed V) scope name (AVariable x 0) seen f
  step_named (set {name = name} {x = x} {e = e} f r) = and_from (V x) (names_source V e) (each_found (IsNamed V) scope name (AVariable x 0) seen f) (source_named r)
  step_named (change {name = name} {x = x} {e = e} f sign r) = and_from (V x) (names_expr V e) (each_found (IsNamed V) scope name (AVariable x 0) seen f) (expr_named r)

  parts_named : {o : ℕ} {ts : List Token} (spots : List (Option (List ℕ))) (es : List Expr) (parts : List PrintPart) → ReadsArguments scope o ts es → Fills spots es parts → names_parts V parts ≡ true
  parts_named [] [] [] r f = refl
  parts_named (Some bs ∷ spots) es (Characters cs ∷ parts) r f = parts_named spots es parts r f.1
  parts_named (None ∷ spots) (e ∷ es) (Decimal d ∷ parts) (argument t p r q) f =
      and_from (names_expr V d) (names_parts V parts) (subst (λ e. names_expr V e ≡ true) f.0 (expr_named r)) (parts_named spots es parts q f.1)
  parts_named _ _ _ r f = absurd f

-- ---- initialisers

-- a variable that is not known does not stand where all is known
module _ (V : Variable → Bool) (x : Variable) (k : DefinitelyAssigned) (unknown : k x ≡ false) where
  other_named : (y : Variable) → also V x y ≡ true → k y ≡ true → V y ≡ true
  other_named y h known = go (y == x) refl h
    where
      go : (b : Bool) → (y == x) ≡ b → (b || V y) ≡ true → V y ≡ true
      go true e q = absurd (true≢false (sym known ∙ ap k (eqb-true y x e) ∙ unknown))
      go false e q = q

  mutual
    expr_less : (e : Expr) → names_expr (also V x) e ≡ true → may_read k e ≡ true → names_expr V e ≡ true
    expr_less (Literal n suffix) h m = refl
    expr_less (Constant name n) h m = refl
    expr_less (Object y is) h m =
        and_from (V y) (names_exprs V is)
        (other_named y (first_of (also V x y) (names_exprs (also V x) is) h) (first_of (k y) (may_read_all k is) m))
        (subscripts_less is (second_of (also V x y) (names_exprs (also V x) is) h) (second_of (k y) (may_read_all k is) m))
    expr_less (Unary op a) h m = expr_less a h m
    expr_less (Binary op a b) h m =
        and_from (names_expr V a) (names_expr V b)
        (expr_less a (first_of (names_expr (also V x) a) (names_expr (also V x) b) h) (first_of (may_read k a) (may_read k b) m))
        (expr_less b (second_of (names_expr (also V x) a) (names_expr (also V x) b) h) (second_of (may_read k a) (may_read k b) m))
    expr_less (Conditional c a b) h m =
        let h' = first_of (names_cond (also V x) c && names_expr (also V x) a) (names_expr (also V x) b) h in
        let m' = first_of (may_test k c && may_read k a) (may_read k b) m in
        three (names_cond V c) (names_expr V a) (names_expr V b)
        (cond_less c (first_of (names_cond (also V x) c) (names_expr (also V x) a) h') (first_of (may_test k c) (may_read k a) m'))
        (expr_less a (second_of (names_cond (also V x) c) (names_expr (also V x) a) h') (second_of (may_test k c) (may_read k a) m'))
        (expr_less b (second_of (names_cond (also V x) c && names_expr (also V x) a) (names_expr (also V x) b) h) (second_of (may_test k c && may_read k a) (may_read k b) m))

    subscripts_less : (is : Exprs) → names_exprs (also V x) is ≡ true → may_read_all k is ≡ true → names_exprs V is ≡ true
    subscripts_less no_exprs h m = refl
    subscripts_less (more_exprs e is) h m =
        and_from (names_expr V e) (names_exprs V is)
        (expr_less e (first_of (names_expr (also V x) e) (names_exprs (also V x) is) h) (first_of (may_read k e) (may_read_all k is) m))
        (subscripts_less is (second_of (names_expr (also V x) e) (names_exprs (also V x) is) h) (second_of (may_read k e) (may_read_all k is) m))

    cond_less : (c : Cond) → names_cond (also V x) c ≡ true → may_test k c ≡ true → names_cond V c ≡ true
    cond_less (NotZero a) h m = expr_less a h m
    cond_less (Compare op a b) h m =
        and_from (names_expr V a) (names_expr V b)
        (expr_less a (first_of (names_expr (also V x) a) (names_expr (also V x) b) h) (first_of (may_read k a) (may_read k b) m))
        (expr_less b (second_of (names_expr (also V x) a) (names_expr (also V x) b) h) (second_of (may_read k a) (may_read k b) m))
    cond_less (Not c) h m = cond_less c h m
    cond_less (LogicalAnd c d) h m =
        and_from (names_cond V c) (names_cond V d)
        (cond_less c (first_of (names_cond (also V x) c) (names_cond (also V x) d) h) (first_of (may_test k c) (may_test k d) m))
        (cond_less d (second_of (names_cond (also V x) c) (names_cond (also V x) d) h) (second_of (may_test k c) (may_test k d) m))
    cond_less (LogicalOr c d) h m =
        and_from (names_cond V c) (names_cond V d)
        (cond_less c (first_of (names_cond (also V x) c) (names_cond (also V x) d) h) (first_of (may_test k c) (may_test k d) m))
        (cond_less d (second_of (names_cond (also V x) c) (names_cond (also V x) d) h) (second_of (may_test k c) (may_test k d) m))

  source_less : (e : Source) → names_source (also V x) e ≡ true → may_take k e ≡ true → names_source V e ≡ true
  source_less (Number e) h m = expr_less e h m
  source_less (Truth c) h m = cond_less c h m

-- what is fixed is named
module _ (V : Variable → Bool) where
  mutual
    fixed_named : (e : Expr) → IsFixedExpr V e → names_expr V e ≡ true
    fixed_named (Literal n suffix) h = refl
    fixed_named (Constant name n) h = refl
    fixed_named (Object x no_exprs) h = and_from (V x) true h refl
    fixed_named (Object x (more_exprs i is)) h = absurd h
    fixed_named (Unary op a) h = fixed_named a h
    fixed_named (Binary op a b) h = and_from (names_expr V a) (names_expr V b) (fixed_named a h.0) (fixed_named b h.1)
    fixed_named (Conditional c a b) h = three (names_cond V c) (names_expr V a) (names_expr V b) (fixed_cond_named c h.0) (fixed_named a h.1) (fixed_named b h.2)

    fixed_cond_named : (c : Cond) → IsFixedCond V c → names_cond V c ≡ true
    fixed_cond_named (NotZero a) h = fixed_named a h
    fixed_cond_named (Compare op a b) h = and_from (names_expr V a) (names_expr V b) (fixed_named a h.0) (fixed_named b h.1)
    fixed_cond_named (Not c) h = fixed_cond_named c h
    fixed_cond_named (LogicalAnd c d) h = and_from (names_cond V c) (names_cond V d) (fixed_cond_named c h.0) (fixed_cond_named d h.1)
    fixed_cond_named (LogicalOr c d) h = and_from (names_cond V c) (names_cond V d) (fixed_cond_named c h.0) (fixed_cond_named d h.1)

-- ---- statements

-- the variables of the loops round a place may be named
abbrev pub NamesCounters : (Variable → Bool) → List Side → Type 0
NamesCounters V box = (y : Variable) → is_counter box y ≡ true → V y ≡ true

-- and that of one loop more
pub counters_inside : (V : Variable → Bool) (box : List Side) (x : Variable) (i : Interval) → NamesCounters V box → NamesCounters (also V x) (inside box x i)
counters_inside V box x i counters y h = go (x == y) refl h
  where
    go : (b : Bool) → (x == y) ≡ b → cond b true (is_counter box y) ≡ true → also V x y ≡ true
    go true e q = ap (λ z. also V x z) (sym (eqb-true x y e)) ∙ own_fixed V x
    go false e q = or_right (y == x) (V y) (counters y q)

also_seen : (V : Variable → Bool) (x : Variable) (scope : Scope) → Each (IsNamed V) scope → Each (IsNamed (also V x)) scope
also_seen V x scope seen = each_weaker (IsNamed V) (IsNamed (also V x)) wider scope seen
  where
    wider : (e : Entity) → IsNamed V e → IsNamed (also V x) e
    wider (AVariable y n) h = or_right (y == x) (V y) h
    wider (AConstant n) h = tt

module _ (P : Asked) where
  mutual
    pub stmt_named : {scope : Scope} {o next next' : ℕ} {ts : List Token} {a : Stmt} → ReadsStmt scope o next ts a next' → (V : Variable → Bool) (box : List Side) → Each (IsNamed V) scope → NamesCounters V box
        → Has P box a → StartsNameOthers a → names_only V a ≡ true
    stmt_named {scope} (assign {x = x} {is = is} {e = e} t r) V box seen counters h starts =
        and_from (V x && names_exprs V is) (names_source V e) (target_named V scope seen t) (source_named V scope seen r)
    stmt_named {scope} (update {x = x} {is = is} {e = e} t sign r) V box seen counters h starts =
        and_from (V x && names_exprs V is) (names_expr V e) (target_named V scope seen t) (expr_named V scope seen r)
    stmt_named {scope} (if_only {c = c} {a = a} less rc ra) V box seen counters h starts =
        and_from (names_cond V c) (names_only V a) (cond_named V scope seen rc) (stmt_named ra V box seen counters h.1 starts)
    stmt_named {scope} (if_else {c = c} {a = a} {b = b} less rc closed ra rb) V box seen counters h starts =
        three (names_cond V c) (names_only V a) (names_only V b) (cond_named V scope seen rc) (stmt_named ra V box seen counters h.1 starts.0) (stmt_named rb V box seen counters h.2 starts.1)
    stmt_named {scope} (for_loop {next = next} {name = name} {start = start} {test = test} {step = step} {body = body} less free rs rt ru r) V box seen counters h starts =
        let head = head_of box next start test step h.0 h.2.form in
        let seen' : Each (IsNamed (also V next)) ((name, AVariable next 0) ∷ scope) = (own_fixed V next, also_seen V next scope seen) in
        and_from (names_source V start && names_cond (also V next) test && names_step (also V next) step) (names_only (also V next) body)
        (three (names_source V start) (names_cond (also V next) test) (names_step (also V next) step)
        (ap (names_source V) head.start_is ∙ fixed_named V head.from (form_fixed box V counters head.from h.0.start head.first))
        (cond_named (also V next) ((name, AVariable next 0) ∷ scope) seen' rt) (step_named (also V next) ((name, AVariable next 0) ∷ scope) seen' ru))
        (stmt_named r (also V next) (inside box next h.1) seen' (counters_inside V box next h.1 counters) h.3 starts)
    stmt_named (block less items) V box seen counters h starts = items_named items V box seen counters h starts
    stmt_named {scope} (print {spots = spots} {es = es} {parts = parts} less f r fill) V box seen counters h starts = parts_named V scope seen spots es parts r fill

    items_named : {scope : Scope} {o next next' : ℕ} {ts : List Token} {items : Items} → ReadsItems scope o next ts items next' → (V : Variable → Bool) (box : List Side) → Each (IsNamed V) scope
        → NamesCounters V box → Have P box items → AllNameOthers items → names_items V items ≡ true
    items_named no_more V box seen counters h starts = refl
    items_named (line r) V box seen counters h starts = items_named r V box seen counters h starts
    items_named {scope} (empty_local {next = next} {name = name} free r) V box seen counters h starts =
        items_named r (also V next) box (own_fixed V next, also_seen V next scope seen) (λ y c. or_right (y == next) (V y) (counters y c)) h.1 starts.1
    items_named {scope} (first_local {next = next} {name = name} {e = e} {items = items} free re r) V box seen counters h ((k, known, unknown), starts) =
        let seen' : Each (IsNamed (also V next)) ((name, AVariable next 0) ∷ scope) = (own_fixed V next, also_seen V next scope seen) in
        and_from (names_source V e) (names_items (also V next) items)
        (source_less V next k unknown e (source_named (also V next) ((name, AVariable next 0) ∷ scope) seen' re) known)
        (items_named r (also V next) box seen' (λ y c. or_right (y == next) (V y) (counters y c)) h.1 starts)
    items_named (statement {s = a} {items = items} ra r) V box seen counters h starts =
        and_from (names_only V a) (names_items V items) (stmt_named ra V box seen counters h.0 starts.0) (items_named r V box seen counters h.1 starts.1)
