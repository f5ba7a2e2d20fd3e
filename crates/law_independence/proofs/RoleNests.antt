-- The roles of what a nest assigns, of those that its directive line gives.
use Rattle.std.specs.Prelude.{ℕ, Bool, true, false, not, ◌≡◌, ◌==◌, ◌&&◌, ◌||◌, ◌⊎◌, List, [], ◌∷◌, ◌++◌, map, filter, Option, Some, None, is_none, slice_get}
use Rattle.std.specs.List.{list_all}
use Rattle.std.proofs.Common.{refl, sym, ap, ◌∙◌, cond, inl, inr}
use Rattle.std.proofs.lemmas.Bool.{true≢false, eqb-true, eq-eqb, and_from, or_left, or_right, or_cases, not_from_false}
use Rattle.std.proofs.lemmas.Map.Views.{any-filter_same}
use Rattle.semantics.specs.Tree.{Variable, BinaryOp, CompareOp, Literal, Constant, Unary, Binary, Object, Conditional, Expr, Exprs, no_exprs, more_exprs, Cond, NotZero, Compare, Not, LogicalAnd, LogicalOr, Source, Number, Truth, Increment, Up, Down, Set, Change, Stmt, Assign, Update, If, IfElse, For, Block, Print, Items, no_items, mark, local, stmt, Declaration}
use Rattle.semantics.specs.Meaning.Agrees.{is_among, declared_in, declared_among, visible_behind, names_expr, names_exprs, names_cond, names_source, names_start, names_step}
use Rattle.semantics.specs.Loops.Operator.{ReduceOp}
use Rattle.semantics.specs.Loops.Piece.{Roles}
use Rattle.affine.specs.declared.interval.Side.{Side}
use Rattle.nest.specs.Nests.{Has, Have, AllStay, lengths_of, StaysInside}
use Rattle.flow.proofs.PrivateLemmas.{among_both}
use Rattle.law_commute.specs.Targets.{scalar, targets, targets_among, targets_outside}
use Rattle.law_commute.proofs.Values.{first_of, second_of}
use Rattle.law_private.specs.Known.{IsWithin}
use Rattle.law_private.proofs.Names.{both_true, expr_more, exprs_more, cond_more, source_more, parts_more}
use Rattle.law_roles.specs.Updates.{operator_of, is_plain, combines, operand, sole, is_selected, is_choice, is_plain_operand, updates, updates_by, assigns, same_expr, reduces, all_reduce}
use Rattle.law_roles.specs.Sharing.{assigned_first, role_variables, are_different}
use Rattle.law_roles.proofs.Starts.{plain_of}
use Rattle.law_independence.specs.OrderLaws.{used_roles}
use Rattle.law_independence.proofs.Targeted.{in_either, is_outside_target}

-- ---- lists

abbrev reduced : List (Variable × ReduceOp) → List Variable
reduced rs = map (λ r. r.0) rs

module _ (f : Variable → Bool) where
  -- some of the variables
  pub among_some : (xs : List Variable) (x : Variable) → is_among (filter f xs) x ≡ (f x && is_among xs x)
  among_some xs x = any-filter_same (λ y. y == x) f (f x) (λ y e. ap f (eqb-true y x e)) xs

  -- and some of the reductions
  abbrev some_of : List (Variable × ReduceOp) → List (Variable × ReduceOp)
  some_of rs = filter (λ r. f r.0) rs

  pub among_reduced : (rs : List (Variable × ReduceOp)) (x : Variable) → is_among (reduced (some_of rs)) x ≡ (f x && is_among (reduced rs) x)
  among_reduced [] x = none (f x)
    where
      none : (b : Bool) → false ≡ (b && false)
      none true = refl
      none false = refl
  among_reduced (r ∷ rs) x = at (f r.0) refl (r.0 == x) refl (among_reduced rs x)
    where
      kept : (b : Bool) → f r.0 ≡ b → is_among (reduced (some_of (r ∷ rs))) x ≡ is_among (reduced (cond b (r ∷ some_of rs) (some_of rs))) x
      kept b e = ap (λ c. is_among (reduced (cond c (r ∷ some_of rs) (some_of rs))) x) e

      at : (b : Bool) → f r.0 ≡ b → (c : Bool) → (r.0 == x) ≡ c → is_among (reduced (some_of rs)) x ≡ (f x && is_among (reduced rs) x)
          → is_among (reduced (some_of (r ∷ rs))) x ≡ (f x && (c || is_among (reduced rs) x))
      at true e true g rest =
          kept true e ∙ ap (λ d. d || is_among (reduced (some_of rs)) x) g ∙ sym (ap (λ d. d && true) (sym (ap f (eqb-true r.0 x g)) ∙ e))
      at true e false g rest = kept true e ∙ ap (λ d. d || is_among (reduced (some_of rs)) x) g ∙ rest
      at false e true g rest =
          kept false e ∙ rest ∙ ap (λ d. d && is_among (reduced rs) x) (sym (ap f (eqb-true r.0 x g)) ∙ e) ∙ sym (ap (λ d. d && true) (sym (ap f (eqb-true r.0 x g)) ∙ e))
      at false e false g rest = kept false e ∙ rest

  -- the operator of one that is kept, and of one that is not
  pub operator_kept : (rs : List (Variable × ReduceOp)) (x : Variable) → f x ≡ true → operator_of (some_of rs) x ≡ operator_of rs x
  operator_kept [] x h = refl
  operator_kept (r ∷ rs) x h = at (f r.0) refl (r.0 == x) refl (operator_kept rs x h)
    where
      kept : (b : Bool) → f r.0 ≡ b → operator_of (some_of (r ∷ rs)) x ≡ operator_of (cond b (r ∷ some_of rs) (some_of rs)) x
      kept b e = ap (λ c. operator_of (cond c (r ∷ some_of rs) (some_of rs)) x) e

      at : (b : Bool) → f r.0 ≡ b → (c : Bool) → (r.0 == x) ≡ c → operator_of (some_of rs) x ≡ operator_of rs x → operator_of (some_of (r ∷ rs)) x ≡ cond c (Some r.1) (operator_of rs x)
      at true e true g rest = kept true e ∙ ap (λ d. cond d (Some r.1) (operator_of (some_of rs) x)) g
      at true e false g rest = kept true e ∙ ap (λ d. cond d (Some r.1) (operator_of (some_of rs) x)) g ∙ rest
      at false e true g rest = absurd (true≢false (sym h ∙ sym (ap f (eqb-true r.0 x g)) ∙ e))
      at false e false g rest = kept false e ∙ rest

  -- what is plain stays so
  pub still_plain : (rs : List (Variable × ReduceOp)) → IsWithin (is_plain rs) (is_plain (some_of rs))
  still_plain rs x h = at (f x) refl
    where
      gone : (b : Bool) → f x ≡ b → b ≡ false → is_among (reduced (some_of rs)) x ≡ false
      gone b e g = among_reduced rs x ∙ ap (λ c. c && is_among (reduced rs) x) (e ∙ g)

      at : (b : Bool) → f x ≡ b → is_plain (some_of rs) x ≡ true
      at true e = ap is_none (operator_kept rs x e) ∙ h
      at false e = plain_of (some_of rs) x (gone false e refl)

-- ---- variables that stand once

some_different : (f : Variable → Bool) (rs : List (Variable × ReduceOp)) → are_different (reduced rs) ≡ true → are_different (reduced (filter (λ r. f r.0) rs)) ≡ true
some_different f [] h = refl
some_different f (r ∷ rs) h = at (f r.0) refl (some_different f rs (second_of (not (is_among (reduced rs) r.0)) (are_different (reduced rs)) h))
  where
    none : (b : Bool) → is_among (reduced rs) r.0 ≡ b → not b ≡ true → is_among (reduced (filter (λ r. f r.0) rs)) r.0 ≡ false
    none true e k = absurd (true≢false (sym k))
    none false e k = among_reduced f rs r.0 ∙ ap (λ c. f r.0 && c) e ∙ nothing (f r.0)
      where
        nothing : (b : Bool) → (b && false) ≡ false
        nothing true = refl
        nothing false = refl

    at : (b : Bool) → f r.0 ≡ b → are_different (reduced (filter (λ r. f r.0) rs)) ≡ true → are_different (reduced (filter (λ r. f r.0) (r ∷ rs))) ≡ true
    at true e rest =
        ap (λ c. are_different (reduced (cond c (r ∷ filter (λ r. f r.0) rs) (filter (λ r. f r.0) rs)))) e
        ∙ and_from (not (is_among (reduced (filter (λ r. f r.0) rs)) r.0)) (are_different (reduced (filter (λ r. f r.0) rs)))
        (not_from_false (is_among (reduced (filter (λ r. f r.0) rs)) r.0) (none (is_among (reduced rs) r.0) refl (first_of (not (is_among (reduced rs) r.0)) (are_different (reduced rs)) h))) rest
    at false e rest = ap (λ c. are_different (reduced (cond c (r ∷ filter (λ r. f r.0) rs) (filter (λ r. f r.0) rs)))) e ∙ rest

-- ---- updates

module _ (rs : List (Variable × ReduceOp)) (f : Variable → Bool) where
  abbrev few : List (Variable × ReduceOp)
  few = filter (λ r. f r.0) rs

  abbrev wider : IsWithin (is_plain rs) (is_plain few)
  wider = still_plain f rs

  start_more : (start : Option Source) → names_start (is_plain rs) start ≡ true → names_start (is_plain few) start ≡ true
  start_more None h = refl
  start_more (Some e) h = source_more (is_plain rs) (is_plain few) wider e h

  step_more : (step : Increment) → names_step (is_plain rs) step ≡ true → names_step (is_plain few) step ≡ true
  step_more (Up x) h = wider x h
  step_more (Down x) h = wider x h
  step_more (Set x e) h = both_true (is_plain rs x) (names_source (is_plain rs) e) (is_plain few x) (names_source (is_plain few) e) (wider x) (source_more (is_plain rs) (is_plain few) wider e) h
  step_more (Change x op e) h = both_true (is_plain rs x) (names_expr (is_plain rs) e) (is_plain few x) (names_expr (is_plain few) e) (wider x) (expr_more (is_plain rs) (is_plain few) wider e) h

  plain_operand : (o : Option Source) → is_plain_operand rs o ≡ true → is_plain_operand few o ≡ true
  plain_operand None h = h
  plain_operand (Some e) h = source_more (is_plain rs) (is_plain few) wider e h

  updates_fewer : (o : Option ReduceOp) (x : Variable) (e : Source) → updates rs o x e ≡ true → updates few o x e ≡ true
  updates_fewer None x e h = source_more (is_plain rs) (is_plain few) wider e h
  updates_fewer (Some op) x e h = plain_operand (operand op x e) h

  updates_by_fewer : (o : Option ReduceOp) (by : BinaryOp) (e : Expr) → updates_by rs o by e ≡ true → updates_by few o by e ≡ true
  updates_by_fewer None by e h = expr_more (is_plain rs) (is_plain few) wider e h
  updates_by_fewer (Some op) by e h = both_true (combines op by) (names_expr (is_plain rs) e) (combines op by) (names_expr (is_plain few) e) (λ k. k) (expr_more (is_plain rs) (is_plain few) wider e) h

  -- each reduction variable among these is kept
  abbrev pub Kept : List Variable → Type 0
  Kept xs = (x : Variable) (op : ReduceOp) → is_among xs x ≡ true → operator_of rs x ≡ Some op → f x ≡ true

  kept_left : (xs ys : List Variable) → Kept (xs ++ ys) → Kept xs
  kept_left xs ys h x op k = h x op (among_both xs ys x ∙ or_left (is_among xs x) (is_among ys x) k)

  kept_right : (xs ys : List Variable) → Kept (xs ++ ys) → Kept ys
  kept_right xs ys h x op k = h x op (among_both xs ys x ∙ or_right (is_among xs x) (is_among ys x) k)

  -- it has its operator still, and what is none is none
  same_operator : (xs : List Variable) → Kept xs → (x : Variable) → is_among xs x ≡ true → operator_of few x ≡ operator_of rs x
  same_operator xs kept x there = at (operator_of rs x) refl
    where
      none : (o : Option ReduceOp) → is_none o ≡ true → o ≡ None
      none None h = refl
      none (Some op) h = absurd (true≢false (sym h))

      at : (o : Option ReduceOp) → operator_of rs x ≡ o → operator_of few x ≡ o
      at None e = none (operator_of few x) (wider x (ap is_none e))
      at (Some op) e = operator_kept f rs x (kept x op there e) ∙ e

  kept_here : (x : Variable) → Kept (x ∷ []) → operator_of few x ≡ operator_of rs x
  kept_here x kept = same_operator (x ∷ []) kept x (or_left (x == x) false (eq-eqb x x refl))

  -- what a choice assigns
  assigned_there : (x : Variable) (e : Expr) (a : Stmt) → assigns x e a ≡ true → is_among (targets a) x ≡ true
  assigned_there x e (Assign y no_exprs (Number d)) h = or_left (y == x) false (first_of (y == x) (same_expr e d) h)
  assigned_there x e (Assign y no_exprs (Truth c)) h = absurd (cc h)
  assigned_there x e (Assign y (more_exprs i is) (Number d)) h = absurd (cc h)
  assigned_there x e (Assign y (more_exprs i is) (Truth c)) h = absurd (cc h)
  assigned_there x e (Update y is op d) h = absurd (cc h)
  assigned_there x e (If c a) h = absurd (cc h)
  assigned_there x e (IfElse c a b) h = absurd (cc h)
  assigned_there x e (For y name start test step body) h = absurd (cc h)
  assigned_there x e (Block items) h = absurd (cc h)
  assigned_there x e (Print parts) h = absurd (cc h)

  chosen_there : (x : Variable) (e : Expr) (a : Stmt) → assigns x e (sole a) ≡ true → is_among (targets a) x ≡ true
  chosen_there x e (Block (stmt a no_items)) h = among_both (targets a) [] x ∙ or_left (is_among (targets a) x) false (chosen_there x e a h)
  chosen_there x e (Block no_items) h = assigned_there x e (Block no_items) h
  chosen_there x e (Block (mark line rest)) h = assigned_there x e (Block (mark line rest)) h
  chosen_there x e (Block (local y name start rest)) h = assigned_there x e (Block (local y name start rest)) h
  chosen_there x e (Block (stmt a (mark line rest))) h = assigned_there x e (Block (stmt a (mark line rest))) h
  chosen_there x e (Block (stmt a (local y name start rest))) h = assigned_there x e (Block (stmt a (local y name start rest))) h
  chosen_there x e (Block (stmt a (stmt b rest))) h = assigned_there x e (Block (stmt a (stmt b rest))) h
  chosen_there x e (Assign y is d) h = assigned_there x e (Assign y is d) h
  chosen_there x e (Update y is op d) h = assigned_there x e (Update y is op d) h
  chosen_there x e (If c a) h = assigned_there x e (If c a) h
  chosen_there x e (IfElse c a b) h = assigned_there x e (IfElse c a b) h
  chosen_there x e (For y name start test step body) h = assigned_there x e (For y name start test step body) h
  chosen_there x e (Print parts) h = assigned_there x e (Print parts) h

  compared_fewer : (by : CompareOp) (e d : Expr) (a : Stmt) → Kept (targets a) → is_choice rs (Compare by e d) a ≡ true → is_choice few (Compare by e d) a ≡ true
  compared_fewer by e (Object x no_exprs) a kept h =
      let two = first_of (is_selected (operator_of rs x) by && assigns x e (sole a)) (names_expr (is_plain rs) e) h in
      let there = second_of (is_selected (operator_of rs x) by) (assigns x e (sole a)) two in
      and_from (is_selected (operator_of few x) by && assigns x e (sole a)) (names_expr (is_plain few) e)
      (and_from (is_selected (operator_of few x) by) (assigns x e (sole a))
      (ap (λ o. is_selected o by) (same_operator (targets a) kept x (chosen_there x e a there)) ∙ first_of (is_selected (operator_of rs x) by) (assigns x e (sole a)) two) there)
      (expr_more (is_plain rs) (is_plain few) wider e (second_of (is_selected (operator_of rs x) by && assigns x e (sole a)) (names_expr (is_plain rs) e) h))
  compared_fewer by e (Object x (more_exprs i is)) a kept h = absurd (cc h)
  compared_fewer by e (Literal n suffix) a kept h = absurd (cc h)
  compared_fewer by e (Constant name n) a kept h = absurd (cc h)
  compared_fewer by e (Unary op b) a kept h = absurd (cc h)
  compared_fewer by e (Binary op b c) a kept h = absurd (cc h)
  compared_fewer by e (Conditional c b d) a kept h = absurd (cc h)

  choice_fewer : (c : Cond) (a : Stmt) → Kept (targets a) → is_choice rs c a ≡ true → is_choice few c a ≡ true
  choice_fewer (Compare by e d) a kept h = compared_fewer by e d a kept h
  choice_fewer (NotZero e) a kept h = absurd (cc h)
  choice_fewer (Not c) a kept h = absurd (cc h)
  choice_fewer (LogicalAnd c d) a kept h = absurd (cc h)
  choice_fewer (LogicalOr c d) a kept h = absurd (cc h)

  mutual
    pub reduces_fewer : (a : Stmt) → Kept (targets a) → reduces rs a ≡ true → reduces few a ≡ true
    reduces_fewer (Assign x no_exprs e) kept h = ap (λ o. updates few o x e) (kept_here x kept) ∙ updates_fewer (operator_of rs x) x e h
    reduces_fewer (Assign x (more_exprs i is) e) kept h =
        both_true (is_plain rs x && names_exprs (is_plain rs) (more_exprs i is)) (names_source (is_plain rs) e) (is_plain few x && names_exprs (is_plain few) (more_exprs i is)) (names_source (is_plain few) e)
        (both_true (is_plain rs x) (names_exprs (is_plain rs) (more_exprs i is)) (is_plain few x) (names_exprs (is_plain few) (more_exprs i is)) (wider x) (exprs_more (is_plain rs) (is_plain few) wider (more_exprs i is)))
        (source_more (is_plain rs) (is_plain few) wider e) h
    reduces_fewer (Update x no_exprs by e) kept h = ap (λ o. updates_by few o by e) (kept_here x kept) ∙ updates_by_fewer (operator_of rs x) by e h
    reduces_fewer (Update x (more_exprs i is) by e) kept h =
        both_true (is_plain rs x && names_exprs (is_plain rs) (more_exprs i is)) (names_expr (is_plain rs) e) (is_plain few x && names_exprs (is_plain few) (more_exprs i is)) (names_expr (is_plain few) e)
        (both_true (is_plain rs x) (names_exprs (is_plain rs) (more_exprs i is)) (is_plain few x) (names_exprs (is_plain few) (more_exprs i is)) (wider x) (exprs_more (is_plain rs) (is_plain few) wider (more_exprs i is)))
        (expr_more (is_plain rs) (is_plain few) wider e) h
    reduces_fewer (If c a) kept h = at (or_cases (is_choice rs c a) (names_cond (is_plain rs) c && reduces rs a) h) (reduces_fewer a kept)
      where
        at : (is_choice rs c a ≡ true) ⊎ ((names_cond (is_plain rs) c && reduces rs a) ≡ true) → (reduces rs a ≡ true → reduces few a ≡ true) → reduces few (If c a) ≡ true
        at (inl k) inside = or_left (is_choice few c a) (names_cond (is_plain few) c && reduces few a) (choice_fewer c a kept k)
        at (inr k) inside =
            or_right (is_choice few c a) (names_cond (is_plain few) c && reduces few a)
            (both_true (names_cond (is_plain rs) c) (reduces rs a) (names_cond (is_plain few) c) (reduces few a) (cond_more (is_plain rs) (is_plain few) wider c) inside k)
    reduces_fewer (IfElse c a b) kept h =
        both_true (names_cond (is_plain rs) c && reduces rs a) (reduces rs b) (names_cond (is_plain few) c && reduces few a) (reduces few b)
        (both_true (names_cond (is_plain rs) c) (reduces rs a) (names_cond (is_plain few) c) (reduces few a) (cond_more (is_plain rs) (is_plain few) wider c) (reduces_fewer a (kept_left (targets a) (targets b) kept)))
        (reduces_fewer b (kept_right (targets a) (targets b) kept)) h
    reduces_fewer (For x name start test step body) kept h =
        both_true (is_plain rs x && names_source (is_plain rs) start && names_cond (is_plain rs) test && names_step (is_plain rs) step) (reduces rs body)
        (is_plain few x && names_source (is_plain few) start && names_cond (is_plain few) test && names_step (is_plain few) step) (reduces few body)
        (both_true (is_plain rs x && names_source (is_plain rs) start && names_cond (is_plain rs) test) (names_step (is_plain rs) step)
        (is_plain few x && names_source (is_plain few) start && names_cond (is_plain few) test) (names_step (is_plain few) step)
        (both_true (is_plain rs x && names_source (is_plain rs) start) (names_cond (is_plain rs) test) (is_plain few x && names_source (is_plain few) start) (names_cond (is_plain few) test)
        (both_true (is_plain rs x) (names_source (is_plain rs) start) (is_plain few x) (names_source (is_plain few) start) (wider x) (source_more (is_plain rs) (is_plain few) wider start))
        (cond_more (is_plain rs) (is_plain few) wider test)) (step_more step))
        (reduces_fewer body kept) h
    reduces_fewer (Block items) kept h = all_reduce_fewer items kept h
    reduces_fewer (Print parts) kept h = parts_more (is_plain rs) (is_plain few) wider parts h

    all_reduce_fewer : (items : Items) → Kept (targets_among items) → all_reduce rs items ≡ true → all_reduce few items ≡ true
    all_reduce_fewer no_items kept h = refl
    all_reduce_fewer (mark line rest) kept h = all_reduce_fewer rest kept h
    all_reduce_fewer (local x name start rest) kept h =
        both_true (is_plain rs x && names_start (is_plain rs) start) (all_reduce rs rest) (is_plain few x && names_start (is_plain few) start) (all_reduce few rest)
        (both_true (is_plain rs x) (names_start (is_plain rs) start) (is_plain few x) (names_start (is_plain few) start) (wider x) (start_more start))
        (all_reduce_fewer rest kept) h
    all_reduce_fewer (stmt a rest) kept h =
        both_true (reduces rs a) (all_reduce rs rest) (reduces few a) (all_reduce few rest)
        (reduces_fewer a (kept_left (targets a) (targets_among rest) kept)) (all_reduce_fewer rest (kept_right (targets a) (targets_among rest) kept)) h

-- what a statement declares is no reduction variable
module _ (rs : List (Variable × ReduceOp)) (x : Variable) where
  plain_here : (y : Variable) → is_plain rs y ≡ true → (y == x) ≡ true → is_plain rs x ≡ true
  plain_here y h e = ap (is_plain rs) (sym (eqb-true y x e)) ∙ h

  choice_declares : (c : Cond) (a : Stmt) → is_choice rs c a ≡ true → is_among (declared_in a) x ≡ false
  choice_declares (Compare by e (Object y no_exprs)) a h = sole_declares e y a (second_of (is_selected (operator_of rs y) by) (assigns y e (sole a)) (first_of (is_selected (operator_of rs y) by && assigns y e (sole a)) (names_expr (is_plain rs) e) h))
    where
      sole_declares : (e : Expr) (y : Variable) (a : Stmt) → assigns y e (sole a) ≡ true → is_among (declared_in a) x ≡ false
      sole_declares e y (Block (stmt a no_items)) k = among_both (declared_in a) [] x ∙ ap (λ b. b || false) (sole_declares e y a k)
      sole_declares e y (Block no_items) k = refl
      sole_declares e y (Block (mark line rest)) k = absurd (cc k)
      sole_declares e y (Block (local z name start rest)) k = absurd (cc k)
      sole_declares e y (Block (stmt a (mark line rest))) k = absurd (cc k)
      sole_declares e y (Block (stmt a (local z name start rest))) k = absurd (cc k)
      sole_declares e y (Block (stmt a (stmt b rest))) k = absurd (cc k)
      sole_declares e y (Assign z is d) k = refl
      sole_declares e y (Update z is op d) k = refl
      sole_declares e y (If c a) k = absurd (cc k)
      sole_declares e y (IfElse c a b) k = absurd (cc k)
      sole_declares e y (For z name start test step body) k = absurd (cc k)
      sole_declares e y (Print parts) k = refl
  choice_declares (Compare by e (Object y (more_exprs i is))) a h = absurd (cc h)
  choice_declares (Compare by e (Literal n suffix)) a h = absurd (cc h)
  choice_declares (Compare by e (Constant name n)) a h = absurd (cc h)
  choice_declares (Compare by e (Unary op b)) a h = absurd (cc h)
  choice_declares (Compare by e (Binary op b c)) a h = absurd (cc h)
  choice_declares (Compare by e (Conditional c b d)) a h = absurd (cc h)
  choice_declares (NotZero e) a h = absurd (cc h)
  choice_declares (Not c) a h = absurd (cc h)
  choice_declares (LogicalAnd c d) a h = absurd (cc h)
  choice_declares (LogicalOr c d) a h = absurd (cc h)

  mutual
    pub declared_plain : (a : Stmt) → reduces rs a ≡ true → is_among (declared_in a) x ≡ true → is_plain rs x ≡ true
    declared_plain (Assign y is e) h d = absurd (cc d)
    declared_plain (Update y is op e) h d = absurd (cc d)
    declared_plain (If c a) h d = at (or_cases (is_choice rs c a) (names_cond (is_plain rs) c && reduces rs a) h) (λ k. declared_plain a k d)
      where
        at : (is_choice rs c a ≡ true) ⊎ ((names_cond (is_plain rs) c && reduces rs a) ≡ true) → (reduces rs a ≡ true → is_plain rs x ≡ true) → is_plain rs x ≡ true
        at (inl k) inside = absurd (true≢false (sym d ∙ choice_declares c a k))
        at (inr k) inside = inside (second_of (names_cond (is_plain rs) c) (reduces rs a) k)
    declared_plain (IfElse c a b) h d =
        in_either x (declared_in a) (declared_in b) d (declared_plain a (second_of (names_cond (is_plain rs) c) (reduces rs a) (first_of (names_cond (is_plain rs) c && reduces rs a) (reduces rs b) h)))
        (declared_plain b (second_of (names_cond (is_plain rs) c && reduces rs a) (reduces rs b) h))
    declared_plain (For y name start test step body) h d =
        at (or_cases (y == x) (is_among (declared_in body) x) d) (declared_plain body (second_of (is_plain rs y && names_source (is_plain rs) start && names_cond (is_plain rs) test && names_step (is_plain rs) step) (reduces rs body) h))
      where
        at : ((y == x) ≡ true) ⊎ (is_among (declared_in body) x ≡ true) → (is_among (declared_in body) x ≡ true → is_plain rs x ≡ true) → is_plain rs x ≡ true
        at (inl k) inside =
            plain_here y
            (first_of (is_plain rs y) (names_source (is_plain rs) start)
            (first_of (is_plain rs y && names_source (is_plain rs) start) (names_cond (is_plain rs) test)
            (first_of (is_plain rs y && names_source (is_plain rs) start && names_cond (is_plain rs) test) (names_step (is_plain rs) step)
            (first_of (is_plain rs y && names_source (is_plain rs) start && names_cond (is_plain rs) test && names_step (is_plain rs) step) (reduces rs body) h)))) k
        at (inr k) inside = inside k
    declared_plain (Block items) h d = declared_plain_among items h d
    declared_plain (Print parts) h d = absurd (cc d)

    declared_plain_among : (items : Items) → all_reduce rs items ≡ true → is_among (declared_among items) x ≡ true → is_plain rs x ≡ true
    declared_plain_among no_items h d = absurd (cc d)
    declared_plain_among (mark line rest) h d = declared_plain_among rest h d
    declared_plain_among (local y name start rest) h d =
        at (or_cases (y == x) (is_among (declared_among rest) x) d) (declared_plain_among rest (second_of (is_plain rs y && names_start (is_plain rs) start) (all_reduce rs rest) h))
      where
        at : ((y == x) ≡ true) ⊎ (is_among (declared_among rest) x ≡ true) → (is_among (declared_among rest) x ≡ true → is_plain rs x ≡ true) → is_plain rs x ≡ true
        at (inl k) inside = plain_here y (first_of (is_plain rs y) (names_start (is_plain rs) start) (first_of (is_plain rs y && names_start (is_plain rs) start) (all_reduce rs rest) h)) k
        at (inr k) inside = inside k
    declared_plain_among (stmt a rest) h d =
        in_either x (declared_in a) (declared_among rest) d (declared_plain a (first_of (reduces rs a) (all_reduce rs rest) h)) (declared_plain_among rest (second_of (reduces rs a) (all_reduce rs rest) h))

-- ---- what is assigned is a scalar

module _ (ds : List Declaration) (x : Variable) where
  none_behind : (box : List Side) (ns : List ℕ) → AllStay box ns no_exprs → ns ≡ []
  none_behind box [] h = refl
  none_behind box (n ∷ ns) h = absurd h

  scalar_there : (box : List Side) (y : Variable) (is : Exprs) → StaysInside ds box y is → is_among (scalar y is) x ≡ true → lengths_of (slice_get ds x) ≡ []
  scalar_there box y no_exprs h t = at (y == x) refl t
    where
      at : (b : Bool) → (y == x) ≡ b → (b || false) ≡ true → lengths_of (slice_get ds x) ≡ []
      at true e q = ap (λ z. lengths_of (slice_get ds z)) (sym (eqb-true y x e)) ∙ none_behind box (lengths_of (slice_get ds y)) h
      at false e q = absurd (cc q)
  scalar_there box y (more_exprs i is) h t = absurd (cc t)

  mutual
    pub scalar_assigned : (box : List Side) (a : Stmt) → Has (StaysInside ds) box a → is_among (targets a) x ≡ true → lengths_of (slice_get ds x) ≡ []
    scalar_assigned box (Assign y is e) h t = scalar_there box y is h.0 t
    scalar_assigned box (Update y is op e) h t = scalar_there box y is h.0 t
    scalar_assigned box (If c a) h t = scalar_assigned box a h.1 t
    scalar_assigned box (IfElse c a b) h t = in_either x (targets a) (targets b) t (scalar_assigned box a h.1) (scalar_assigned box b h.2)
    scalar_assigned box (For y name start test step body) h t = scalar_assigned _ body h.3 t
    scalar_assigned box (Block items) h t = scalar_assigned_among box items h t
    scalar_assigned box (Print parts) h t = absurd (cc t)

    scalar_assigned_among : (box : List Side) (items : Items) → Have (StaysInside ds) box items → is_among (targets_among items) x ≡ true → lengths_of (slice_get ds x) ≡ []
    scalar_assigned_among box no_items h t = absurd (cc t)
    scalar_assigned_among box (mark line rest) h t = scalar_assigned_among box rest h t
    scalar_assigned_among box (local y name start rest) h t = scalar_assigned_among box rest h.1 t
    scalar_assigned_among box (stmt a rest) h t = in_either x (targets a) (targets_among rest) t (scalar_assigned box a h.0) (scalar_assigned_among box rest h.1)

-- ---- the roles of what a nest assigns

module _ (s : Stmt) (roles : Roles) where
  abbrev used : Roles
  used = used_roles s roles

  abbrev outside : Variable → Bool
  outside = is_among (targets_outside s)

  distribute : (f a b : Bool) → ((f && a) || (f && b)) ≡ (f && (a || b))
  distribute true a b = refl
  distribute false a b = refl

  among_parts : (ps ls : List Variable) (rs : List (Variable × ReduceOp)) (x : Variable)
      → is_among ((ps ++ ls) ++ reduced rs) x ≡ ((is_among ps x || is_among ls x) || is_among (reduced rs) x)
  among_parts ps ls rs x = among_both (ps ++ ls) (reduced rs) x ∙ ap (λ b. b || is_among (reduced rs) x) (among_both ps ls x)

  -- they are those that the line gives of what it assigns
  pub used_variables : (x : Variable) → is_among (role_variables used) x ≡ (outside x && is_among (role_variables roles) x)
  used_variables x =
      among_parts used.privates used.lasts used.reductions x
      ∙ ap (λ b. (b || is_among used.lasts x) || is_among (reduced used.reductions) x) (among_some outside roles.privates x)
      ∙ ap (λ b. ((outside x && is_among roles.privates x) || b) || is_among (reduced used.reductions) x) (among_some outside roles.lasts x)
      ∙ ap (λ b. ((outside x && is_among roles.privates x) || (outside x && is_among roles.lasts x)) || b) (among_reduced outside roles.reductions x)
      ∙ ap (λ b. b || (outside x && is_among (reduced roles.reductions) x)) (distribute (outside x) (is_among roles.privates x) (is_among roles.lasts x))
      ∙ distribute (outside x) (is_among roles.privates x || is_among roles.lasts x) (is_among (reduced roles.reductions) x)
      ∙ ap (λ b. outside x && b) (sym (among_parts roles.privates roles.lasts roles.reductions x))

  pub used_first : (x : Variable) → is_among (assigned_first used) x ≡ (outside x && is_among (assigned_first roles) x)
  used_first x =
      among_both used.privates used.lasts x
      ∙ ap (λ b. b || is_among used.lasts x) (among_some outside roles.privates x)
      ∙ ap (λ b. (outside x && is_among roles.privates x) || b) (among_some outside roles.lasts x)
      ∙ distribute (outside x) (is_among roles.privates x) (is_among roles.lasts x)
      ∙ ap (λ b. outside x && b) (sym (among_both roles.privates roles.lasts x))

  pub used_last : (x : Variable) → is_among used.lasts x ≡ true → is_among roles.lasts x ≡ true
  used_last x h = second_of (outside x) (is_among roles.lasts x) (sym (among_some outside roles.lasts x) ∙ h)

  -- each reduction variable that it assigns is one from outside
  pub used_updates : reduces roles.reductions s ≡ true → reduces used.reductions s ≡ true
  used_updates updates = reduces_fewer roles.reductions outside s kept updates
    where
      kept : Kept roles.reductions outside (targets s)
      kept x op t is = is_outside_target s x (seen (is_among (declared_in s) x) refl) t
        where
          seen : (b : Bool) → is_among (declared_in s) x ≡ b → visible_behind s x ≡ true
          seen true e = absurd (true≢false (sym (declared_plain roles.reductions x s updates e) ∙ ap is_none is))
          seen false e = ap not e

  pub used_different : are_different (reduced roles.reductions) ≡ true → are_different (reduced used.reductions) ≡ true
  used_different different = some_different outside roles.reductions different

  -- no reduction variable is private or lastprivate
  module _ (apart : list_all (is_plain roles.reductions) (assigned_first roles) ≡ true) where
    one_plain : (xs : List Variable) → list_all (is_plain roles.reductions) xs ≡ true → (x : Variable) → is_among xs x ≡ true → is_plain roles.reductions x ≡ true
    one_plain [] h x k = absurd (true≢false (sym k))
    one_plain (y ∷ xs) h x k =
        at (or_cases (y == x) (is_among xs x) k) (λ q. one_plain xs (second_of (is_plain roles.reductions y) (list_all (is_plain roles.reductions) xs) h) x q)
      where
        at : ((y == x) ≡ true) ⊎ (is_among xs x ≡ true) → (is_among xs x ≡ true → is_plain roles.reductions x ≡ true) → is_plain roles.reductions x ≡ true
        at (inl e) rest = ap (is_plain roles.reductions) (sym (eqb-true y x e)) ∙ first_of (is_plain roles.reductions y) (list_all (is_plain roles.reductions) xs) h
        at (inr q) rest = rest q

    all_plain : (xs : List Variable) → ((x : Variable) → is_among xs x ≡ true → is_plain used.reductions x ≡ true) → list_all (is_plain used.reductions) xs ≡ true
    all_plain [] h = refl
    all_plain (x ∷ xs) h =
        and_from (is_plain used.reductions x) (list_all (is_plain used.reductions) xs) (h x (or_left (x == x) (is_among xs x) (eq-eqb x x refl)))
        (all_plain xs (λ y k. h y (or_right (x == y) (is_among xs y) k)))

    pub used_apart : list_all (is_plain used.reductions) (assigned_first used) ≡ true
    used_apart =
        all_plain (assigned_first used)
        (λ x h. still_plain outside roles.reductions x (one_plain (assigned_first roles) apart x (second_of (outside x) (is_among (assigned_first roles) x) (sym (used_first x) ∙ h))))
