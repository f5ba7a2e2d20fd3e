-- The statement of the operands has what the statement has.
use Rattle.std.specs.Prelude.{ℕ, zero, suc, Bool, true, false, ◌≡◌, ◌==◌, ◌&&◌, ◌||◌, List, [], ◌∷◌, ◌++◌, Option, Some, None, option_and_then, Contains, is_none}
use Rattle.std.specs.List.{AllByRecursion as Each}
use Rattle.std.proofs.Common.{refl, sym, ap, ◌∙◌, subst, cond}
use Rattle.std.proofs.lemmas.Bool.{true≢false, and_from}
use Rattle.std.proofs.lemmas.List.{append-nil}
use Rattle.std.proofs.lemmas.List.Elements.{Contains-append_left, Contains-append_right}
use Rattle.std.proofs.lemmas.Option.{none-some, same_Some, cond_some}
use Rattle.semantics.specs.Tree.{Variable, BinaryOp, Expr, Literal, Constant, Object, Unary, Binary, Conditional, Exprs, no_exprs, more_exprs, Cond, NotZero, Compare, Not, LogicalAnd, LogicalOr, Source, Number, Truth, Increment, Up, Down, Set, Change, PrintPart, Characters, Decimal, Stmt, Assign, Update, If, IfElse, For, Block, Print, Items, no_items, mark, local, stmt}
use Rattle.semantics.specs.Meaning.Value.{map_option}
use Rattle.semantics.specs.Meaning.Definite.{Privates, DefinitelyAssigned, known_with, without, may_read, may_read_all, may_test, may_take, may_step, may_print, where_ok, after_both, privates_in, privates_among, declared_known, if_stepped, definite, definite_items}
use Rattle.semantics.specs.Meaning.Agrees.{also, declared_in, declared_among, names_expr, names_exprs, names_cond, names_source, names_start, names_step, names_parts, names_only, names_items}
use Rattle.semantics.specs.Loops.Nest.{Loop, as_loop, nest_of}
use Rattle.semantics.specs.Loops.Access.{Access, accesses, items_accesses, source_accesses, cond_accesses, expr_accesses, start_accesses, part_accesses}
use Rattle.semantics.specs.Loops.Operator.{ReduceOp}
use Rattle.law_commute.specs.Steady.{IsSteadySource, IsSteady, AreSteady}
use Rattle.law_commute.proofs.Lists.{each_join, each_contained}
use Rattle.law_commute.proofs.Values.{first_of, second_of}
use Rattle.law_nests.proofs.Joined.{first_loop}
use Rattle.law_private.proofs.Alike.{may_names, may_names_all, may_names_test, may_names_source, may_names_parts}
use Rattle.law_private.proofs.Names.{both_true}
use Rattle.law_private.proofs.More.{MoreBy, more_where, more_if, more_both, more_then, more_stepped}
use Rattle.law_roles.specs.Updates.{operator_of, is_plain, combines, is_and_also, is_or_else, operand, sole, assigns, is_selected, is_choice, is_plain_operand, updates, updates_by, reduces, all_reduce, or_else, operand_of, operand_by, operands, all_operands}
use Rattle.law_roles.proofs.Shadow.{assigns_is}

-- ---- one operand

-- an operand is a part of what is assigned
module _ (op : ReduceOp) (x : Variable) (Q : Source → Type 0) (number : (by : BinaryOp) (y : Variable) (a : Expr) → Q (Number (Binary by (Object y no_exprs) a)) → Q (Number a))
    (and_also : (y : Variable) (c : Cond) → Q (Truth (LogicalAnd (NotZero (Object y no_exprs)) c)) → Q (Truth c))
    (or_too : (y : Variable) (c : Cond) → Q (Truth (LogicalOr (NotZero (Object y no_exprs)) c)) → Q (Truth c)) where
  operand_has : (e d : Source) → operand op x e ≡ Some d → Q e → Q d
  operand_has (Number (Binary by (Object y no_exprs) a)) d h q = subst Q (cond_some (combines op by && (y == x)) (Number a) d h).1 (number by y a q)
  operand_has (Truth (LogicalAnd (NotZero (Object y no_exprs)) c)) d h q = subst Q (cond_some (is_and_also op && (y == x)) (Truth c) d h).1 (and_also y c q)
  operand_has (Truth (LogicalOr (NotZero (Object y no_exprs)) c)) d h q = subst Q (cond_some (is_or_else op && (y == x)) (Truth c) d h).1 (or_too y c q)
  operand_has _ d h q = absurd (none-some d h)

  -- or all of it
  operand_keeps : (e : Source) → Q e → Q (or_else e (operand op x e))
  operand_keeps e q = at (operand op x e) refl
    where
      at : (o : Option Source) → operand op x e ≡ o → Q (or_else e o)
      at None is = q
      at (Some d) is = operand_has e d is q

module _ (rs : List (Variable × ReduceOp)) where
  abbrev V : Variable → Bool
  V = is_plain rs

  -- ---- nests

  loop_operands : (s : Stmt) (l : Loop) (b : Stmt) → as_loop s ≡ Some (l, b) → as_loop (operands rs s) ≡ Some (l, operands rs b)
  loop_operands (For x name start test step inner) l b h =
      ap (λ (p : Loop × Stmt). Some (p.0, operands rs p.1)) (same_Some (record { variable = x; start = start; test = test; step = step }, inner) (l, b) h)
  loop_operands (Block (stmt a no_items)) l b h = loop_operands a l b h
  loop_operands _ l b h = absurd (none-some (l, b) h)

  pub nest_operands : (n : ℕ) (s : Stmt) (loops : List Loop) (body : Stmt) → nest_of n s ≡ Some (loops, body) → nest_of n (operands rs s) ≡ Some (loops, operands rs body)
  nest_operands zero s loops body h = ap (λ (p : List Loop × Stmt). Some (p.0, operands rs p.1)) (same_Some ([], s) (loops, body) h)
  nest_operands (suc n) s loops body h =
      let first = first_loop n s loops body h in
      ap (option_and_then (λ (found : Loop × Stmt). map_option {B = List Loop × Stmt} (λ (inner : List Loop × Stmt). (found.0 ∷ inner.0, inner.1)) (nest_of n found.1))) (loop_operands s first.loop first.inside first.is)
      ∙ ap (map_option {B = List Loop × Stmt} (λ (inner : List Loop × Stmt). (first.loop ∷ inner.0, inner.1))) (nest_operands n first.inside first.loops body first.rest)
      ∙ ap (λ ls. Some (ls, operands rs body)) first.all_are

  -- ---- what is declared

  declared_sole : (a : Stmt) → declared_in (sole a) ≡ declared_in a
  declared_sole (Block (stmt a no_items)) = declared_sole a ∙ sym (append-nil (declared_in a))
  declared_sole a = refl

  declared_by : (o : Option ReduceOp) (x : Variable) (by : BinaryOp) (e : Expr) → declared_in (operand_by o x by e) ≡ []
  declared_by None x by e = refl
  declared_by (Some op) x by e = refl

  mutual
    pub declared_operands : (a : Stmt) → declared_in (operands rs a) ≡ declared_in a
    declared_operands (Assign x no_exprs e) = refl
    declared_operands (Assign x (more_exprs i is) e) = refl
    declared_operands (Update x no_exprs by e) = declared_by (operator_of rs x) x by e
    declared_operands (Update x (more_exprs i is) by e) = refl
    declared_operands (If c a) = at (is_choice rs c a) (declared_operands a)
      where
        at : (b : Bool) → declared_in (operands rs a) ≡ declared_in a → declared_in (cond b (sole a) (If c (operands rs a))) ≡ declared_in a
        at true h = declared_sole a
        at false h = h
    declared_operands (IfElse c a b) = λ i. declared_operands a i ++ declared_operands b i
    declared_operands (For x name start test step body) = ap (λ ds. x ∷ ds) (declared_operands body)
    declared_operands (Block items) = items_declared items
    declared_operands (Print parts) = refl

    items_declared : (items : Items) → declared_among (all_operands rs items) ≡ declared_among items
    items_declared no_items = refl
    items_declared (mark line rest) = items_declared rest
    items_declared (local x name start rest) = ap (λ ds. x ∷ ds) (items_declared rest)
    items_declared (stmt a rest) = λ i. declared_operands a i ++ items_declared rest i

  -- ---- names

  names_sole : (W : Variable → Bool) (a : Stmt) → names_only W a ≡ true → names_only W (sole a) ≡ true
  names_sole W (Block (stmt a no_items)) h = names_sole W a (first_of (names_only W a) true h)
  names_sole W a h = h

  names_operand : (W : Variable → Bool) (o : Option ReduceOp) (x : Variable) (e : Source) → names_source W e ≡ true → names_source W (operand_of o x e) ≡ true
  names_operand W None x e h = h
  names_operand W (Some op) x e h =
      operand_keeps op x (λ d. names_source W d ≡ true) (λ by y a k. second_of (W y && true) (names_expr W a) k) (λ y c k. second_of (W y && true) (names_cond W c) k)
      (λ y c k. second_of (W y && true) (names_cond W c) k) e h

  names_by : (W : Variable → Bool) (o : Option ReduceOp) (x : Variable) (by : BinaryOp) (e : Expr) → names_only W (Update x no_exprs by e) ≡ true → names_only W (operand_by o x by e) ≡ true
  names_by W None x by e h = h
  names_by W (Some op) x by e h = h

  mutual
    pub names_operands : (a : Stmt) (W : Variable → Bool) → names_only W a ≡ true → names_only W (operands rs a) ≡ true
    names_operands (Assign x no_exprs e) W h =
        and_from (W x && true) (names_source W (operand_of (operator_of rs x) x e)) (first_of (W x && true) (names_source W e) h)
        (names_operand W (operator_of rs x) x e (second_of (W x && true) (names_source W e) h))
    names_operands (Assign x (more_exprs i is) e) W h = h
    names_operands (Update x no_exprs by e) W h = names_by W (operator_of rs x) x by e h
    names_operands (Update x (more_exprs i is) by e) W h = h
    names_operands (If c a) W h = at (is_choice rs c a) (names_operands a W (second_of (names_cond W c) (names_only W a) h))
      where
        at : (b : Bool) → names_only W (operands rs a) ≡ true → names_only W (cond b (sole a) (If c (operands rs a))) ≡ true
        at true k = names_sole W a (second_of (names_cond W c) (names_only W a) h)
        at false k = and_from (names_cond W c) (names_only W (operands rs a)) (first_of (names_cond W c) (names_only W a) h) k
    names_operands (IfElse c a b) W h =
        let front = first_of (names_cond W c && names_only W a) (names_only W b) h in
        and_from (names_cond W c && names_only W (operands rs a)) (names_only W (operands rs b))
        (and_from (names_cond W c) (names_only W (operands rs a)) (first_of (names_cond W c) (names_only W a) front) (names_operands a W (second_of (names_cond W c) (names_only W a) front)))
        (names_operands b W (second_of (names_cond W c && names_only W a) (names_only W b) h))
    names_operands (For x name start test step body) W h =
        let heads = names_source W start && names_cond (also W x) test && names_step (also W x) step in
        and_from heads (names_only (also W x) (operands rs body)) (first_of heads (names_only (also W x) body) h) (names_operands body (also W x) (second_of heads (names_only (also W x) body) h))
    names_operands (Block items) W h = items_name items W h
    names_operands (Print parts) W h = h

    items_name : (items : Items) (W : Variable → Bool) → names_items W items ≡ true → names_items W (all_operands rs items) ≡ true
    items_name no_items W h = h
    items_name (mark line rest) W h = items_name rest W h
    items_name (local x name start rest) W h =
        and_from (names_start W start) (names_items (also W x) (all_operands rs rest)) (first_of (names_start W start) (names_items (also W x) rest) h)
        (items_name rest (also W x) (second_of (names_start W start) (names_items (also W x) rest) h))
    items_name (stmt a rest) W h =
        and_from (names_only W (operands rs a)) (names_items W (all_operands rs rest)) (names_operands a W (first_of (names_only W a) (names_items W rest) h))
        (items_name rest W (second_of (names_only W a) (names_items W rest) h))

  -- ---- what is steady

  steady_sole : (F : Variable → Bool) (a : Stmt) → IsSteady F a → IsSteady F (sole a)
  steady_sole F (Block (stmt a no_items)) h = steady_sole F a h.0
  steady_sole F a h = h

  steady_operand : (F : Variable → Bool) (o : Option ReduceOp) (x : Variable) (e : Source) → IsSteadySource F e → IsSteadySource F (operand_of o x e)
  steady_operand F None x e h = h
  steady_operand F (Some op) x e h = operand_keeps op x (λ d. IsSteadySource F d) (λ by y a k. k.1) (λ y c k. k.1) (λ y c k. k.1) e h

  steady_by : (F : Variable → Bool) (o : Option ReduceOp) (x : Variable) (by : BinaryOp) (e : Expr) → IsSteady F (Update x no_exprs by e) → IsSteady F (operand_by o x by e)
  steady_by F None x by e h = h
  steady_by F (Some op) x by e h = h

  mutual
    pub steady_operands : (a : Stmt) (F : Variable → Bool) → IsSteady F a → IsSteady F (operands rs a)
    steady_operands (Assign x no_exprs e) F h = (h.0, steady_operand F (operator_of rs x) x e h.1)
    steady_operands (Assign x (more_exprs i is) e) F h = h
    steady_operands (Update x no_exprs by e) F h = steady_by F (operator_of rs x) x by e h
    steady_operands (Update x (more_exprs i is) by e) F h = h
    steady_operands (If c a) F h = at (is_choice rs c a) (steady_operands a F h.1)
      where
        at : (b : Bool) → IsSteady F (operands rs a) → IsSteady F (cond b (sole a) (If c (operands rs a)))
        at true k = steady_sole F a h.1
        at false k = (h.0, k)
    steady_operands (IfElse c a b) F h = (h.0, steady_operands a F h.1, steady_operands b F h.2)
    steady_operands (For x name start test step body) F h = (h.0, h.1, h.2, h.3, steady_operands body (also F x) h.4)
    steady_operands (Block items) F h = items_steady items F h
    steady_operands (Print parts) F h = h

    items_steady : (items : Items) (F : Variable → Bool) → AreSteady F items → AreSteady F (all_operands rs items)
    items_steady no_items F h = h
    items_steady (mark line rest) F h = items_steady rest F h
    items_steady (local x name start rest) F h = (h.0, h.1, items_steady rest F h.2)
    items_steady (stmt a rest) F h = (steady_operands a F h.0, items_steady rest F h.1)

  -- ---- accesses

  abbrev In : List Access → List Access → Type 0
  In xs ys = Each (Contains ys) xs

  each_as : (P Q : Access → Type 0) (xs : List Access) → ((a : Access) → P a → Q a) → Each P xs → Each Q xs
  each_as P Q [] h k = tt
  each_as P Q (a ∷ xs) h k = (h a k.0, each_as P Q xs h k.1)

  in_left : (xs ys zs : List Access) → In xs ys → In xs (ys ++ zs)
  in_left xs ys zs h = each_as (Contains ys) (Contains (ys ++ zs)) xs (λ a k. Contains-append_left ys zs a k) h

  in_right : (xs ys zs : List Access) → In xs zs → In xs (ys ++ zs)
  in_right xs ys zs h = each_as (Contains zs) (Contains (ys ++ zs)) xs (λ a k. Contains-append_right ys zs a k) h

  in_both : (xs xs' ys ys' : List Access) → In xs ys → In xs' ys' → In (xs ++ xs') (ys ++ ys')
  in_both xs xs' ys ys' one two = each_join (Contains (ys ++ ys')) xs xs' (in_left xs ys ys' one) (in_right xs' ys ys' two)

  accesses_sole : (inner : List Loop) (a : Stmt) → accesses inner (sole a) ≡ accesses inner a
  accesses_sole inner (Block (stmt a no_items)) = accesses_sole inner a ∙ sym (append-nil (accesses inner a))
  accesses_sole inner a = refl

  operand_in : (inner : List Loop) (o : Option ReduceOp) (x : Variable) (e : Source) → In (source_accesses inner (operand_of o x e)) (source_accesses inner e)
  operand_in inner None x e = each_contained (source_accesses inner e)
  operand_in inner (Some op) x e =
      operand_keeps op x (λ d. In (source_accesses inner d) (source_accesses inner e)) (λ by y a k. k) (λ y c k. k) (λ y c k. k) e (each_contained (source_accesses inner e))

  by_in : (inner : List Loop) (o : Option ReduceOp) (x : Variable) (by : BinaryOp) (e : Expr) → In (accesses inner (operand_by o x by e)) (expr_accesses inner e)
  by_in inner None x by e = each_contained (expr_accesses inner e)
  by_in inner (Some op) x by e = each_contained (expr_accesses inner e)

  mutual
    pub accesses_operands : (inner : List Loop) (a : Stmt) → In (accesses inner (operands rs a)) (accesses inner a)
    accesses_operands inner (Assign x no_exprs e) = operand_in inner (operator_of rs x) x e
    accesses_operands inner (Assign x (more_exprs i is) e) = each_contained (accesses inner (Assign x (more_exprs i is) e))
    accesses_operands inner (Update x no_exprs by e) = by_in inner (operator_of rs x) x by e
    accesses_operands inner (Update x (more_exprs i is) by e) = each_contained (accesses inner (Update x (more_exprs i is) by e))
    accesses_operands inner (If c a) = at (is_choice rs c a) (accesses_operands inner a)
      where
        at : (b : Bool) → In (accesses inner (operands rs a)) (accesses inner a) → In (accesses inner (cond b (sole a) (If c (operands rs a)))) (cond_accesses inner c ++ accesses inner a)
        at true h = in_right (accesses inner (sole a)) (cond_accesses inner c) (accesses inner a) (subst (λ xs. In xs (accesses inner a)) (sym (accesses_sole inner a)) (each_contained (accesses inner a)))
        at false h = in_both (cond_accesses inner c) (accesses inner (operands rs a)) (cond_accesses inner c) (accesses inner a) (each_contained (cond_accesses inner c)) h
    accesses_operands inner (IfElse c a b) =
        in_both (cond_accesses inner c ++ accesses inner (operands rs a)) (accesses inner (operands rs b)) (cond_accesses inner c ++ accesses inner a) (accesses inner b)
        (in_both (cond_accesses inner c) (accesses inner (operands rs a)) (cond_accesses inner c) (accesses inner a) (each_contained (cond_accesses inner c)) (accesses_operands inner a))
        (accesses_operands inner b)
    accesses_operands inner (For x name start test step body) = accesses_operands (inner ++ record { variable = x; start = start; test = test; step = step } ∷ []) body
    accesses_operands inner (Block items) = items_access inner items
    accesses_operands inner (Print parts) = each_contained (part_accesses inner parts)

    items_access : (inner : List Loop) (items : Items) → In (items_accesses inner (all_operands rs items)) (items_accesses inner items)
    items_access inner no_items = tt
    items_access inner (mark line rest) = items_access inner rest
    items_access inner (local x name start rest) =
        in_both (start_accesses inner start) (items_accesses inner (all_operands rs rest)) (start_accesses inner start) (items_accesses inner rest) (each_contained (start_accesses inner start)) (items_access inner rest)
    items_access inner (stmt a rest) =
        in_both (accesses inner (operands rs a)) (items_accesses inner (all_operands rs rest)) (accesses inner a) (items_accesses inner rest) (accesses_operands inner a) (items_access inner rest)

  -- ---- what is known

  -- all that is known of plain variables in the first is known in the second
  abbrev pub Less : DefinitelyAssigned → DefinitelyAssigned → Type 0
  Less k j = (y : Variable) → k y ≡ true → V y ≡ true → j y ≡ true

  abbrev pub More : Option DefinitelyAssigned → Option DefinitelyAssigned → Type 0
  More = MoreBy Less

  both_less : (a b c d : DefinitelyAssigned) → Less a c → Less b d → Less (λ y. a y && b y) (λ y. c y && d y)
  both_less a b c d one two y h plain = both_true (a y) (b y) (c y) (d y) (λ k. one y k plain) (λ k. two y k plain) h

  known_less : (k j : DefinitelyAssigned) (x : Variable) (b : Bool) → Less k j → Less (known_with k x b) (known_with j x b)
  known_less k j x b less y h plain = at (y == x) h
    where
      at : (c : Bool) → cond c b (k y) ≡ true → cond c b (j y) ≡ true
      at true e = e
      at false e = less y e plain

  known_one : (k j : DefinitelyAssigned) (x : Variable) → Less k j → Less k (known_with j x true)
  known_one k j x less y h plain = at (y == x)
    where
      at : (c : Bool) → cond c true (j y) ≡ true
      at true = refl
      at false = less y h plain

  without_less : (xs : List Variable) (k j : DefinitelyAssigned) → Less k j → Less (without k xs) (without j xs)
  without_less [] k j less = less
  without_less (x ∷ xs) k j less = without_less xs (known_with k x false) (known_with j x false) (known_less k j x false less)

  module _ (k j : DefinitelyAssigned) (less : Less k j) where
    mutual
      expr_less : (e : Expr) → names_expr V e ≡ true → names_expr k e ≡ true → names_expr j e ≡ true
      expr_less (Literal n suffix) v h = refl
      expr_less (Constant name n) v h = refl
      expr_less (Object x is) v h =
          and_from (j x) (names_exprs j is) (less x (first_of (k x) (names_exprs k is) h) (first_of (V x) (names_exprs V is) v)) (exprs_less is (second_of (V x) (names_exprs V is) v) (second_of (k x) (names_exprs k is) h))
      expr_less (Unary op a) v h = expr_less a v h
      expr_less (Binary op a b) v h =
          and_from (names_expr j a) (names_expr j b) (expr_less a (first_of (names_expr V a) (names_expr V b) v) (first_of (names_expr k a) (names_expr k b) h))
          (expr_less b (second_of (names_expr V a) (names_expr V b) v) (second_of (names_expr k a) (names_expr k b) h))
      expr_less (Conditional c a b) v h =
          let front = first_of (names_cond k c && names_expr k a) (names_expr k b) h in
          let plain = first_of (names_cond V c && names_expr V a) (names_expr V b) v in
          and_from (names_cond j c && names_expr j a) (names_expr j b)
          (and_from (names_cond j c) (names_expr j a) (cond_less c (first_of (names_cond V c) (names_expr V a) plain) (first_of (names_cond k c) (names_expr k a) front))
          (expr_less a (second_of (names_cond V c) (names_expr V a) plain) (second_of (names_cond k c) (names_expr k a) front)))
          (expr_less b (second_of (names_cond V c && names_expr V a) (names_expr V b) v) (second_of (names_cond k c && names_expr k a) (names_expr k b) h))

      exprs_less : (es : Exprs) → names_exprs V es ≡ true → names_exprs k es ≡ true → names_exprs j es ≡ true
      exprs_less no_exprs v h = refl
      exprs_less (more_exprs e es) v h =
          and_from (names_expr j e) (names_exprs j es) (expr_less e (first_of (names_expr V e) (names_exprs V es) v) (first_of (names_expr k e) (names_exprs k es) h))
          (exprs_less es (second_of (names_expr V e) (names_exprs V es) v) (second_of (names_expr k e) (names_exprs k es) h))

      cond_less : (c : Cond) → names_cond V c ≡ true → names_cond k c ≡ true → names_cond j c ≡ true
      cond_less (NotZero e) v h = expr_less e v h
      cond_less (Compare op a b) v h =
          and_from (names_expr j a) (names_expr j b) (expr_less a (first_of (names_expr V a) (names_expr V b) v) (first_of (names_expr k a) (names_expr k b) h))
          (expr_less b (second_of (names_expr V a) (names_expr V b) v) (second_of (names_expr k a) (names_expr k b) h))
      cond_less (Not c) v h = cond_less c v h
      cond_less (LogicalAnd c d) v h =
          and_from (names_cond j c) (names_cond j d) (cond_less c (first_of (names_cond V c) (names_cond V d) v) (first_of (names_cond k c) (names_cond k d) h))
          (cond_less d (second_of (names_cond V c) (names_cond V d) v) (second_of (names_cond k c) (names_cond k d) h))
      cond_less (LogicalOr c d) v h =
          and_from (names_cond j c) (names_cond j d) (cond_less c (first_of (names_cond V c) (names_cond V d) v) (first_of (names_cond k c) (names_cond k d) h))
          (cond_less d (second_of (names_cond V c) (names_cond V d) v) (second_of (names_cond k c) (names_cond k d) h))

    source_less : (e : Source) → names_source V e ≡ true → names_source k e ≡ true → names_source j e ≡ true
    source_less (Number e) v h = expr_less e v h
    source_less (Truth c) v h = cond_less c v h

    parts_less : (parts : List PrintPart) → names_parts V parts ≡ true → names_parts k parts ≡ true → names_parts j parts ≡ true
    parts_less [] v h = refl
    parts_less (Characters bs ∷ ps) v h = parts_less ps v h
    parts_less (Decimal e ∷ ps) v h =
        and_from (names_expr j e) (names_parts j ps) (expr_less e (first_of (names_expr V e) (names_parts V ps) v) (first_of (names_expr k e) (names_parts k ps) h))
        (parts_less ps (second_of (names_expr V e) (names_parts V ps) v) (second_of (names_expr k e) (names_parts k ps) h))

    read_less : (e : Expr) → names_expr V e ≡ true → may_read k e ≡ true → may_read j e ≡ true
    read_less e v h = may_names j e ∙ expr_less e v (sym (may_names k e) ∙ h)

    read_all_less : (es : Exprs) → names_exprs V es ≡ true → may_read_all k es ≡ true → may_read_all j es ≡ true
    read_all_less es v h = may_names_all j es ∙ exprs_less es v (sym (may_names_all k es) ∙ h)

    test_less : (c : Cond) → names_cond V c ≡ true → may_test k c ≡ true → may_test j c ≡ true
    test_less c v h = may_names_test j c ∙ cond_less c v (sym (may_names_test k c) ∙ h)

    take_less : (e : Source) → names_source V e ≡ true → may_take k e ≡ true → may_take j e ≡ true
    take_less e v h = may_names_source j e ∙ source_less e v (sym (may_names_source k e) ∙ h)

    print_less : (parts : List PrintPart) → names_parts V parts ≡ true → may_print k parts ≡ true → may_print j parts ≡ true
    print_less parts v h = may_names_parts j parts ∙ parts_less parts v (sym (may_names_parts k parts) ∙ h)

    step_less : (step : Increment) → names_step V step ≡ true → may_step k step ≡ true → may_step j step ≡ true
    step_less (Up x) v h = less x h v
    step_less (Down x) v h = less x h v
    step_less (Set x e) v h = take_less e (second_of (V x) (names_source V e) v) h
    step_less (Change x op e) v h =
        and_from (j x) (may_read j e) (less x (first_of (k x) (may_read k e) h) (first_of (V x) (names_expr V e) v)) (read_less e (second_of (V x) (names_expr V e) v) (second_of (k x) (may_read k e) h))

    declared_less : (x : Variable) (start : Option Source) → names_start V start ≡ true → More (declared_known k x start) (declared_known j x start)
    declared_less x None v = known_less k j x false less
    declared_less x (Some e) v = more_where Less (may_take k e) (may_take j e) (known_with k x true) (known_with j x true) (take_less e v) (known_less k j x true less)

    -- ---- updates

    assign_less : (x : Variable) (e : Source) → updates rs (operator_of rs x) x e ≡ true
        → More (where_ok (may_take k e) (known_with k x true)) (where_ok (may_take j (operand_of (operator_of rs x) x e)) (known_with j x true))
    assign_less x e h = at (operator_of rs x) h
      where
        at : (o : Option ReduceOp) → updates rs o x e ≡ true → More (where_ok (may_take k e) (known_with k x true)) (where_ok (may_take j (operand_of o x e)) (known_with j x true))
        at None v = more_where Less (may_take k e) (may_take j e) (known_with k x true) (known_with j x true) (take_less e v) (known_less k j x true less)
        at (Some op) v =
            more_where Less (may_take k e) (may_take j (or_else e (operand op x e))) (known_with k x true) (known_with j x true) (λ t. of (operand op x e) refl v t) (known_less k j x true less)
          where
            of : (o : Option Source) → operand op x e ≡ o → is_plain_operand rs o ≡ true → may_take k e ≡ true → may_take j (or_else e o) ≡ true
            of None is v t = absurd (true≢false (sym v))
            of (Some d) is v t =
                take_less d v
                (operand_has op x (λ q. may_take k q ≡ true) (λ by y a m. second_of (k y && true) (may_read k a) m) (λ y c m. second_of (k y && true) (may_test k c) m)
                (λ y c m. second_of (k y && true) (may_test k c) m) e d is t)

    by_less : (P : Privates) (x : Variable) (by : BinaryOp) (e : Expr) → updates_by rs (operator_of rs x) by e ≡ true
        → More (where_ok (k x && true && may_read k e) k) (definite P (operand_by (operator_of rs x) x by e) j)
    by_less P x by e h = at (operator_of rs x) refl h
      where
        at : (o : Option ReduceOp) → operator_of rs x ≡ o → updates_by rs o by e ≡ true → More (where_ok (k x && true && may_read k e) k) (definite P (operand_by o x by e) j)
        at None is v =
            more_where Less (k x && true && may_read k e) (j x && true && may_read j e) k j
            (λ t.
            and_from (j x && true) (may_read j e) (and_from (j x) true (less x (first_of (k x) true (first_of (k x && true) (may_read k e) t)) (ap is_none is)) refl)
            (read_less e v (second_of (k x && true) (may_read k e) t)))
            less
        at (Some op) is v =
            more_where Less (k x && true && may_read k e) (may_read j e) k (known_with j x true) (λ t. read_less e (second_of (combines op by) (names_expr V e) v) (second_of (k x && true) (may_read k e) t)) (known_one k j x less)

    choice_less : (P : Privates) (c : Cond) (a : Stmt) (o : Option DefinitelyAssigned) → is_choice rs c a ≡ true → More (cond (may_test k c) (after_both o (Some k)) None) (definite P (sole a) j)
    choice_less P (Compare by e (Object x no_exprs)) a o h =
        let front = is_selected (operator_of rs x) by && assigns x e (sole a) in
        let is = assigns_is x e (sole a) (second_of (is_selected (operator_of rs x) by) (assigns x e (sole a)) (first_of front (names_expr V e) h)) in
        subst (λ (z : Stmt). More (cond (may_read k e && (k x && true)) (after_both o (Some k)) None) (definite P z j)) (sym is)
        (at (may_read k e && (k x && true)) o (λ t. read_less e (second_of front (names_expr V e) h) (first_of (may_read k e) (k x && true) t)))
      where
        at : (b : Bool) (o : Option DefinitelyAssigned) → (b ≡ true → may_read j e ≡ true) → More (cond b (after_both o (Some k)) None) (where_ok (may_read j e) (known_with j x true))
        at false o t = tt
        at true None t = tt
        at true (Some q) t = subst (λ d. More (Some (λ y. q y && k y)) (where_ok d (known_with j x true))) (sym (t refl)) (λ y m plain. known_one k j x less y (second_of (q y) (k y) m) plain)
    choice_less P _ a o h = absurd (true≢false (sym h))

  -- ---- private locals of constructs

  module _ (P : Privates) where
    privates_sole : (a : Stmt) → privates_in P (sole a) ≡ privates_in P a
    privates_sole (Block (stmt a no_items)) = privates_sole a ∙ sym (append-nil (privates_in P a))
    privates_sole a = refl

    privates_by : (o : Option ReduceOp) (x : Variable) (by : BinaryOp) (e : Expr) → privates_in P (operand_by o x by e) ≡ []
    privates_by None x by e = refl
    privates_by (Some op) x by e = refl

    mutual
      privates_operands : (a : Stmt) → privates_in P (operands rs a) ≡ privates_in P a
      privates_operands (Assign x no_exprs e) = refl
      privates_operands (Assign x (more_exprs i is) e) = refl
      privates_operands (Update x no_exprs by e) = privates_by (operator_of rs x) x by e
      privates_operands (Update x (more_exprs i is) by e) = refl
      privates_operands (If c a) = at (is_choice rs c a) (privates_operands a)
        where
          at : (b : Bool) → privates_in P (operands rs a) ≡ privates_in P a → privates_in P (cond b (sole a) (If c (operands rs a))) ≡ privates_in P a
          at true h = privates_sole a
          at false h = h
      privates_operands (IfElse c a b) = λ i. privates_operands a i ++ privates_operands b i
      privates_operands (For x name start test step body) = privates_operands body
      privates_operands (Block items) = items_privates items
      privates_operands (Print parts) = refl

      items_privates : (items : Items) → privates_among P (all_operands rs items) ≡ privates_among P items
      items_privates no_items = refl
      items_privates (mark line rest) = ap (λ ps. P line ++ ps) (items_privates rest)
      items_privates (local x name start rest) = items_privates rest
      items_privates (stmt a rest) = λ i. privates_operands a i ++ items_privates rest i

    mutual
      pub definite_operands : (a : Stmt) → reduces rs a ≡ true → (k j : DefinitelyAssigned) → Less k j → More (definite P a k) (definite P (operands rs a) j)
      definite_operands (Assign x no_exprs e) h k j less = assign_less k j less x e h
      definite_operands (Assign x (more_exprs i is) e) h k j less =
          let front = first_of (V x && names_exprs V (more_exprs i is)) (names_source V e) h in
          let es = more_exprs i is in
          more_where Less (may_read_all k es && may_take k e) (may_read_all j es && may_take j e) (known_with k x true) (known_with j x true)
          (λ t.
          and_from (may_read_all j es) (may_take j e) (read_all_less k j less es (second_of (V x) (names_exprs V es) front) (first_of (may_read_all k es) (may_take k e) t))
          (take_less k j less e (second_of (V x && names_exprs V es) (names_source V e) h) (second_of (may_read_all k es) (may_take k e) t)))
          (known_less k j x true less)
      definite_operands (Update x no_exprs by e) h k j less = by_less k j less P x by e h
      definite_operands (Update x (more_exprs i is) by e) h k j less =
          let front = first_of (V x && names_exprs V (more_exprs i is)) (names_expr V e) h in
          let es = more_exprs i is in
          more_where Less (k x && may_read_all k es && may_read k e) (j x && may_read_all j es && may_read j e) k j
          (λ t.
          let t1 = first_of (k x && may_read_all k es) (may_read k e) t in
          and_from (j x && may_read_all j es) (may_read j e)
          (and_from (j x) (may_read_all j es) (less x (first_of (k x) (may_read_all k es) t1) (first_of (V x) (names_exprs V es) front))
          (read_all_less k j less es (second_of (V x) (names_exprs V es) front) (second_of (k x) (may_read_all k es) t1)))
          (read_less k j less e (second_of (V x && names_exprs V es) (names_expr V e) h) (second_of (k x && may_read_all k es) (may_read k e) t)))
          less
      definite_operands (If c a) h k j less = at (is_choice rs c a) refl h (λ v. definite_operands a v k j less)
        where
          at : (b : Bool) → is_choice rs c a ≡ b → (b || (names_cond V c && reduces rs a)) ≡ true → (reduces rs a ≡ true → More (definite P a k) (definite P (operands rs a) j))
              → More (cond (may_test k c) (after_both (definite P a k) (Some k)) None) (definite P (cond b (sole a) (If c (operands rs a))) j)
          at true is v inner = choice_less k j less P c a (definite P a k) is
          at false is v inner =
              more_if Less (may_test k c) (may_test j c) (after_both (definite P a k) (Some k)) (after_both (definite P (operands rs a) j) (Some j)) (test_less k j less c (first_of (names_cond V c) (reduces rs a) v))
              (more_both Less both_less (definite P a k) (definite P (operands rs a) j) (Some k) (Some j) (inner (second_of (names_cond V c) (reduces rs a) v)) less)
      definite_operands (IfElse c a b) h k j less =
          let front = first_of (names_cond V c && reduces rs a) (reduces rs b) h in
          more_if Less (may_test k c) (may_test j c) (after_both (definite P a k) (definite P b k)) (after_both (definite P (operands rs a) j) (definite P (operands rs b) j))
          (test_less k j less c (first_of (names_cond V c) (reduces rs a) front))
          (more_both Less both_less (definite P a k) (definite P (operands rs a) j) (definite P b k) (definite P (operands rs b) j) (definite_operands a (second_of (names_cond V c) (reduces rs a) front) k j less)
          (definite_operands b (second_of (names_cond V c && reduces rs a) (reduces rs b) h) k j less))
      definite_operands (For x name start test step body) h k j less =
          let inner = second_of (V x && names_source V start && names_cond V test && names_step V step) (reduces rs body) h in
          let heads = first_of (V x && names_source V start && names_cond V test && names_step V step) (reduces rs body) h in
          let stepped = second_of (V x && names_source V start && names_cond V test) (names_step V step) heads in
          let three = first_of (V x && names_source V start && names_cond V test) (names_step V step) heads in
          let tested = second_of (V x && names_source V start) (names_cond V test) three in
          let started = second_of (V x) (names_source V start) (first_of (V x && names_source V start) (names_cond V test) three) in
          let mine = privates_in P body in
          let before = without (known_with k x true) mine in
          let after = without (known_with j x true) mine in
          let wider : Less before after = without_less mine (known_with k x true) (known_with j x true) (known_less k j x true less) in
          subst (λ ps. More (definite P (For x name start test step body) k) (cond (may_take j start && may_test (without (known_with j x true) ps) test) (if_stepped (λ l. may_step l step) (definite P (operands rs body) (without (known_with j x true) ps)) (Some (without j ps))) None))
          (sym (privates_operands body))
          (more_if Less (may_take k start && may_test before test) (may_take j start && may_test after test)
          (if_stepped (λ l. may_step l step) (definite P body before) (Some (without k mine))) (if_stepped (λ l. may_step l step) (definite P (operands rs body) after) (Some (without j mine)))
          (λ t. and_from (may_take j start) (may_test after test) (take_less k j less start started (first_of (may_take k start) (may_test before test) t)) (test_less before after wider test tested (second_of (may_take k start) (may_test before test) t)))
          (more_stepped Less (definite P body before) (definite P (operands rs body) after) (Some (without k mine)) (Some (without j mine)) (λ l. may_step l step) (λ l. may_step l step)
          (definite_operands body inner before after wider) (λ l m q. step_less l m q step stepped) (without_less mine k j less)))
      definite_operands (Block items) h k j less = items_definite [] items h k j less
      definite_operands (Print parts) h k j less = more_where Less (may_print k parts) (may_print j parts) k j (print_less k j less parts h) less

      items_definite : (pending : List Variable) (items : Items) → all_reduce rs items ≡ true → (k j : DefinitelyAssigned) → Less k j → More (definite_items P pending items k) (definite_items P pending (all_operands rs items) j)
      items_definite pending no_items h k j less = less
      items_definite pending (mark line rest) h k j less = items_definite (P line) rest h k j less
      items_definite pending (local x name start rest) h k j less =
          let front = first_of (V x && names_start V start) (all_reduce rs rest) h in
          more_then Less (declared_known k x start) (declared_known j x start) (definite_items P [] rest) (definite_items P [] (all_operands rs rest))
          (declared_less k j less x start (second_of (V x) (names_start V start) front)) (λ l m q. items_definite [] rest (second_of (V x && names_start V start) (all_reduce rs rest) h) l m q)
      items_definite pending (stmt a rest) h k j less =
          more_then Less (definite P a k) (definite P (operands rs a) j) (λ l. definite_items P [] rest (without l pending)) (λ m. definite_items P [] (all_operands rs rest) (without m pending))
          (definite_operands a (first_of (reduces rs a) (all_reduce rs rest) h) k j less)
          (λ l m q. items_definite [] rest (second_of (reduces rs a) (all_reduce rs rest) h) (without l pending) (without m pending) (without_less pending l m q))
