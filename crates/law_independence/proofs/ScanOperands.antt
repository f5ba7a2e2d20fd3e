-- The operands of a scan's phases: the phase that does not write the scan variable goes as it is, and no phase reads more by its operands.
use Rattle.std.specs.Prelude.{Bool, true, false, not, ◌≡◌, ◌⊎◌, ◌==◌, ◌&&◌, List, [], ◌∷◌, ◌++◌, Option, Some, None}
use Rattle.std.proofs.Common.{refl, sym, ap, ◌∙◌, cond, inl, inr}
use Rattle.std.proofs.lemmas.Bool.{true≢false, or_left, or_right, or_cases, or_parts}
use Rattle.std.proofs.lemmas.List.Folds.{list_any-append}
use Rattle.std.proofs.lemmas.Option.{none-some, cond_some}
use Rattle.semantics.specs.Tree.{Variable, BinaryOp, Expr, Literal, Constant, Object, Unary, Binary, Conditional, no_exprs, more_exprs, Cond, NotZero, Compare, Not, LogicalAnd, LogicalOr, Source, Number, Truth, Stmt, Assign, Update, If, IfElse, For, Block, Print, Items, no_items, mark, local, stmt}
use Rattle.semantics.specs.Meaning.Agrees.{is_among, names_expr}
use Rattle.semantics.specs.Directives.Naming.{named_expr, named_cond, named_source, named_start, named_step}
use Rattle.semantics.specs.Loops.Operator.{ReduceOp}
use Rattle.law_commute.proofs.Values.{first_of, second_of}
use Rattle.law_private.proofs.Chunks.{not_true}
use Rattle.law_roles.specs.Updates.{operator_of, is_plain, combines, is_and_also, is_or_else, operand, sole, assigns, is_selected, is_choice, reduces, or_else, operand_of, operand_by, operands, all_operands}
use Rattle.law_roles.proofs.Seen.{apart_back}
use Rattle.law_roles.proofs.Shadow.{assigns_is}
use Rattle.law_scans.specs.Phases.{joined_items, bare, written_in, written_among, read_in, read_among, spares, input_of, scan_of, keeps_phases}
use Rattle.law_scans.proofs.Exclusive.{spared_reads}

-- ---- what phases say

pub record Phases (x : Variable) (op : ReduceOp) (inclusive : Bool) (front back : Items) : Type 0 where
  pub updates : reduces ((x, op) ∷ []) (Block (input_of inclusive front back)) ≡ true
  pub untouched : is_among (written_among (scan_of inclusive front back)) x ≡ false
  pub free : (y : Variable) → is_among (read_among (input_of inclusive front back)) y ≡ true → is_among (written_among (scan_of inclusive front back)) y ≡ false

pub phase_parts : (x : Variable) (op : ReduceOp) (inclusive : Bool) (front back : Items) → keeps_phases x op inclusive front back ≡ true → Phases x op inclusive front back
phase_parts x op inclusive front back h = record { updates = first_of updated apart two; untouched = only_read; free = of inclusive only_read }
  where
    updated : Bool
    updated = reduces ((x, op) ∷ []) (Block (input_of inclusive front back))

    apart : Bool
    apart = not (is_among (written_among (scan_of inclusive front back)) x)

    three : (updated && apart && spares x front back) ≡ true
    three = first_of (updated && apart && spares x front back) (spares x back front) h

    two : (updated && apart) ≡ true
    two = first_of (updated && apart) (spares x front back) three

    only_read : is_among (written_among (scan_of inclusive front back)) x ≡ false
    only_read = not_true (is_among (written_among (scan_of inclusive front back)) x) (second_of updated apart two)

    of : (b : Bool) → is_among (written_among (scan_of b front back)) x ≡ false → (y : Variable) → is_among (read_among (input_of b front back)) y ≡ true → is_among (written_among (scan_of b front back)) y ≡ false
    of true k y r = spared_reads x back front k (second_of (updated && apart && spares x front back) (spares x back front) h) y r
    of false k y r = spared_reads x front back k (second_of (updated && apart) (spares x front back) three) y r

-- ---- one behind the other

pub operands_joined : (rs : List (Variable × ReduceOp)) (front back : Items) → all_operands rs (joined_items front back) ≡ joined_items (all_operands rs front) (all_operands rs back)
operands_joined rs no_items back = refl
operands_joined rs (mark line rest) back = ap (mark line) (operands_joined rs rest back)
operands_joined rs (local x name start rest) back = ap (local x name start) (operands_joined rs rest back)
operands_joined rs (stmt a rest) back = ap (stmt (operands rs a)) (operands_joined rs rest back)

pub operands_bare : (rs : List (Variable × ReduceOp)) (front : Items) → all_operands rs (bare front) ≡ bare front
operands_bare rs no_items = refl
operands_bare rs (mark line rest) = operands_bare rs rest
operands_bare rs (local x name start rest) = ap (local x name None) (operands_bare rs rest)
operands_bare rs (stmt a rest) = operands_bare rs rest

-- ---- without writes of the variable

module _ (x : Variable) (op : ReduceOp) where
  abbrev rs : List (Variable × ReduceOp)
  rs = (x, op) ∷ []

  not_reduced : (z : Variable) → (z == x) ≡ false → operator_of rs z ≡ None
  not_reduced z h = ap (λ b. cond b (Some op) None) (apart_back z x h)

  written_sole : (a : Stmt) → is_among (written_in a) x ≡ false → is_among (written_in (sole a)) x ≡ false
  written_sole (Block (stmt a no_items)) h = written_sole a (or_parts (is_among (written_in a) x) false (sym (list_any-append (λ z. z == x) (written_in a) []) ∙ h)).0
  written_sole a h = h

  not_chosen : (c : Cond) (a : Stmt) → is_among (written_in a) x ≡ false → is_choice rs c a ≡ false
  not_chosen (Compare by e (Object z no_exprs)) a h = at (is_choice rs (Compare by e (Object z no_exprs)) a) refl
    where
      at : (b : Bool) → is_choice rs (Compare by e (Object z no_exprs)) a ≡ b → is_choice rs (Compare by e (Object z no_exprs)) a ≡ false
      at false k = k
      at true k =
          let front = first_of (is_selected (operator_of rs z) by && assigns z e (sole a)) (names_expr (is_plain rs) e) k in
          let is = assigns_is z e (sole a) (second_of (is_selected (operator_of rs z) by) (assigns z e (sole a)) front) in
          let apart : (z == x) ≡ false = (or_parts (z == x) false (ap (λ (b : Stmt). is_among (written_in b) x) (sym is) ∙ written_sole a h)).0 in
          absurd (true≢false (sym (first_of (is_selected (operator_of rs z) by) (assigns z e (sole a)) front) ∙ ap (λ o. is_selected o by) (not_reduced z apart)))
  not_chosen (Compare by e (Object z (more_exprs i is))) a h = refl
  not_chosen (Compare by e (Literal n suffix)) a h = refl
  not_chosen (Compare by e (Constant name n)) a h = refl
  not_chosen (Compare by e (Unary sign b)) a h = refl
  not_chosen (Compare by e (Binary sign b c)) a h = refl
  not_chosen (Compare by e (Conditional c b d)) a h = refl
  not_chosen (NotZero e) a h = refl
  not_chosen (Not c) a h = refl
  not_chosen (LogicalAnd c d) a h = refl
  not_chosen (LogicalOr c d) a h = refl

  mutual
    free_operands : (a : Stmt) → is_among (written_in a) x ≡ false → operands rs a ≡ a
    free_operands (Assign z no_exprs e) h = ap (λ o. Assign z no_exprs (operand_of o z e)) (not_reduced z (or_parts (z == x) false h).0)
    free_operands (Assign z (more_exprs i is) e) h = refl
    free_operands (Update z no_exprs by e) h = ap (λ o. operand_by o z by e) (not_reduced z (or_parts (z == x) false h).0)
    free_operands (Update z (more_exprs i is) by e) h = refl
    free_operands (If c a) h = ap (λ b. cond b (sole a) (If c (operands rs a))) (not_chosen c a h) ∙ ap (If c) (free_operands a h)
    free_operands (IfElse c a b) h =
        let parts = or_parts (is_among (written_in a) x) (is_among (written_in b) x) (sym (list_any-append (λ z. z == x) (written_in a) (written_in b)) ∙ h) in
        λ i. IfElse c (free_operands a parts.0 i) (free_operands b parts.1 i)
    free_operands (For z name start test step body) h = ap (For z name start test step) (free_operands body (or_parts (z == x) (is_among (written_in body) x) h).1)
    free_operands (Block items) h = ap Block (all_free_operands items h)
    free_operands (Print parts) h = refl

    pub all_free_operands : (items : Items) → is_among (written_among items) x ≡ false → all_operands rs items ≡ items
    all_free_operands no_items h = refl
    all_free_operands (mark line rest) h = ap (mark line) (all_free_operands rest h)
    all_free_operands (local z name None rest) h = ap (local z name None) (all_free_operands rest h)
    all_free_operands (local z name (Some e) rest) h = ap (local z name (Some e)) (all_free_operands rest (or_parts (z == x) (is_among (written_among rest) x) h).1)
    all_free_operands (stmt a rest) h =
        let parts = or_parts (is_among (written_in a) x) (is_among (written_among rest) x) (sym (list_any-append (λ z. z == x) (written_in a) (written_among rest)) ∙ h) in
        λ i. stmt (free_operands a parts.0 i) (all_free_operands rest parts.1 i)

-- ---- what is read

module _ (rs : List (Variable × ReduceOp)) (y : Variable) where
  -- it is none of the first, or one of the second
  abbrev Within : List Variable → List Variable → Type 0
  Within xs zs = is_among xs y ≡ true → is_among zs y ≡ true

  within_right : (xs zs ws : List Variable) → Within xs ws → Within xs (zs ++ ws)
  within_right xs zs ws h k = list_any-append (λ z. z == y) zs ws ∙ or_right (is_among zs y) (is_among ws y) (h k)

  within_both : (xs zs xs' zs' : List Variable) → Within xs zs → Within xs' zs' → Within (xs ++ xs') (zs ++ zs')
  within_both xs zs xs' zs' one two k = at (or_cases (is_among xs y) (is_among xs' y) (sym (list_any-append (λ z. z == y) xs xs') ∙ k))
    where
      at : (is_among xs y ≡ true) ⊎ (is_among xs' y ≡ true) → is_among (zs ++ zs') y ≡ true
      at (inl h) = list_any-append (λ z. z == y) zs zs' ∙ or_left (is_among zs y) (is_among zs' y) (one h)
      at (inr h) = list_any-append (λ z. z == y) zs zs' ∙ or_right (is_among zs y) (is_among zs' y) (two h)

  operand_within : (op : ReduceOp) (x : Variable) (e d : Source) → operand op x e ≡ Some d → Within (named_source d) (named_source e)
  operand_within op x (Number (Binary by (Object z no_exprs) a)) d h k =
      or_right (z == y) (is_among (named_expr a) y) (ap (λ c. is_among (named_source c) y) (cond_some (combines op by && (z == x)) (Number a) d h).1 ∙ k)
  operand_within op x (Truth (LogicalAnd (NotZero (Object z no_exprs)) c)) d h k =
      or_right (z == y) (is_among (named_cond c) y) (ap (λ e. is_among (named_source e) y) (cond_some (is_and_also op && (z == x)) (Truth c) d h).1 ∙ k)
  operand_within op x (Truth (LogicalOr (NotZero (Object z no_exprs)) c)) d h k =
      or_right (z == y) (is_among (named_cond c) y) (ap (λ e. is_among (named_source e) y) (cond_some (is_or_else op && (z == x)) (Truth c) d h).1 ∙ k)
  operand_within op x _ d h k = absurd (none-some d h)

  source_within : (o : Option ReduceOp) (x : Variable) (e : Source) → Within (named_source (operand_of o x e)) (named_source e)
  source_within None x e k = k
  source_within (Some op) x e k = at (operand op x e) refl k
    where
      at : (o : Option Source) → operand op x e ≡ o → is_among (named_source (or_else e o)) y ≡ true → is_among (named_source e) y ≡ true
      at None is j = j
      at (Some d) is j = operand_within op x e d is j

  by_within : (o : Option ReduceOp) (x : Variable) (by : BinaryOp) (e : Expr) → Within (read_in (operand_by o x by e)) (x ∷ named_expr e)
  by_within None x by e k = k
  by_within (Some op) x by e k = or_right (x == y) (is_among (named_expr e) y) k

  sole_within : (a : Stmt) → Within (read_in (sole a)) (read_in a)
  sole_within (Block (stmt a no_items)) k = list_any-append (λ z. z == y) (read_in a) [] ∙ or_left (is_among (read_in a) y) false (sole_within a k)
  sole_within a k = k

  mutual
    read_operands : (a : Stmt) → Within (read_in (operands rs a)) (read_in a)
    read_operands (Assign x no_exprs e) k = source_within (operator_of rs x) x e k
    read_operands (Assign x (more_exprs i is) e) k = k
    read_operands (Update x no_exprs by e) k = by_within (operator_of rs x) x by e k
    read_operands (Update x (more_exprs i is) by e) k = k
    read_operands (If c a) k = at (is_choice rs c a) (read_operands a) k
      where
        at : (b : Bool) → Within (read_in (operands rs a)) (read_in a) → Within (read_in (cond b (sole a) (If c (operands rs a)))) (named_cond c ++ read_in a)
        at true h = within_right (read_in (sole a)) (named_cond c) (read_in a) (sole_within a)
        at false h = within_both (named_cond c) (named_cond c) (read_in (operands rs a)) (read_in a) (λ j. j) h
    read_operands (IfElse c a b) k =
        within_both (named_cond c ++ read_in (operands rs a)) (named_cond c ++ read_in a) (read_in (operands rs b)) (read_in b)
        (within_both (named_cond c) (named_cond c) (read_in (operands rs a)) (read_in a) (λ j. j) (read_operands a)) (read_operands b) k
    read_operands (For x name start test step body) k =
        within_both (named_source start ++ named_cond test ++ named_step step) (named_source start ++ named_cond test ++ named_step step) (read_in (operands rs body)) (read_in body) (λ j. j) (read_operands body) k
    read_operands (Block items) k = all_read_operands items k
    read_operands (Print parts) k = k

    pub all_read_operands : (items : Items) → Within (read_among (all_operands rs items)) (read_among items)
    all_read_operands no_items k = k
    all_read_operands (mark line rest) k = all_read_operands rest k
    all_read_operands (local x name start rest) k = within_both (named_start start) (named_start start) (read_among (all_operands rs rest)) (read_among rest) (λ j. j) (all_read_operands rest) k
    all_read_operands (stmt a rest) k = within_both (read_in (operands rs a)) (read_in a) (read_among (all_operands rs rest)) (read_among rest) (read_operands a) (all_read_operands rest) k
