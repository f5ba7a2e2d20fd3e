-- A reduction variable that is assigned is read before, so that it is known before the loop. (OpenMP 5.2, 5.5.8)
use Rattle.std.specs.Prelude.{Bool, true, false, ◌≡◌, ◌==◌, ◌&&◌, ◌||◌, ◌⊎◌, List, [], ◌∷◌, ◌++◌, Option, Some, None, is_none}
use Rattle.std.proofs.Common.{refl, sym, ap, ◌∙◌, cond, inl, inr}
use Rattle.std.proofs.lemmas.Bool.{true≢false, eqb-true, or_cases, false_from_ne_true}
use Rattle.std.proofs.lemmas.Option.{same_Some, none-some, cond_some}
use Rattle.semantics.specs.Tree.{Variable, Expr, Object, Binary, no_exprs, more_exprs, Cond, NotZero, Compare, LogicalAnd, LogicalOr, Source, Number, Truth, Stmt, Assign, Update, If, IfElse, For, Block, Print, Items, no_items, mark, local, stmt}
use Rattle.semantics.specs.Meaning.Agrees.{is_among, names_expr, names_exprs, names_cond, names_source, names_start, names_step}
use Rattle.semantics.specs.Meaning.Definite.{Privates, DefinitelyAssigned, known_with, without, may_read, may_read_all, may_test, may_take, may_print, privates_in, after_both, declared_known, definite, definite_items}
use Rattle.semantics.specs.Loops.Operator.{ReduceOp}
use Rattle.flow.proofs.PrivateLemmas.{among_both}
use Rattle.law_commute.specs.Targets.{targets, targets_among}
use Rattle.law_commute.proofs.Values.{first_of, second_of}
use Rattle.law_private.proofs.Alike.{without_within}
use Rattle.law_roles.specs.Updates.{operator_of, is_plain, combines, is_and_also, is_or_else, operand, sole, assigns, same_expr, is_selected, is_choice, is_plain_operand, updates, reduces, all_reduce}
use Rattle.law_runs.proofs.Assigning.{swapped}
use Rattle.law_runs.proofs.Points.{allowed, tested_known, branches, and_then}
use Rattle.law_scopes.proofs.Staying.{loop_is_known}

module _ (P : Privates) (rs : List (Variable × ReduceOp)) (x : Variable) (op : ReduceOp) (is : operator_of rs x ≡ Some op) where
  -- it is neither known behind nor assigned
  abbrev Unknown : DefinitelyAssigned → List Variable → Type 0
  Unknown k ts = (k x ≡ false) × (is_among ts x ≡ false)

  -- a plain variable is another one
  pub other : (y : Variable) → is_plain rs y ≡ true → (y == x) ≡ false
  other y h = false_from_ne_true (y == x) (λ e. absurd (true≢false (sym h ∙ ap (λ z. is_none (operator_of rs z)) (eqb-true y x e) ∙ ap is_none is)))

  -- what is known of another one, once more
  unknown_with : (k : DefinitelyAssigned) (y : Variable) (b : Bool) → (y == x) ≡ false → k x ≡ false → known_with k y b x ≡ false
  unknown_with k y b apart u = ap (λ c. cond c b (k x)) (swapped y x apart) ∙ u

  unknown_without : (xs : List Variable) (k : DefinitelyAssigned) → k x ≡ false → without k xs x ≡ false
  unknown_without xs k u = false_from_ne_true (without k xs x) (λ h. absurd (true≢false (sym (without_within xs k x h) ∙ u)))

  reads : (k : DefinitelyAssigned) (y : Variable) → y ≡ x → k y ≡ true → k x ≡ false → ⊥
  reads k y e h u = true≢false (sym h ∙ ap k e ∙ u)

  -- an operand stands beside the variable itself
  beside : (k : DefinitelyAssigned) (y : Variable) → (y == x) ≡ true → (e d : Source) → operand op y e ≡ Some d → may_take k e ≡ true → k x ≡ false → ⊥
  beside k y same (Number (Binary by (Object z no_exprs) a)) d h q u =
      reads k z (eqb-true z y (second_of (combines op by) (z == y) (cond_some (combines op by && (z == y)) (Number a) d h).0) ∙ eqb-true y x same)
      (first_of (k z) true (first_of (k z && true) (may_read k a) q)) u
  beside k y same (Truth (LogicalAnd (NotZero (Object z no_exprs)) c)) d h q u =
      reads k z (eqb-true z y (second_of (is_and_also op) (z == y) (cond_some (is_and_also op && (z == y)) (Truth c) d h).0) ∙ eqb-true y x same)
      (first_of (k z) true (first_of (k z && true) (may_test k c) q)) u
  beside k y same (Truth (LogicalOr (NotZero (Object z no_exprs)) c)) d h q u =
      reads k z (eqb-true z y (second_of (is_or_else op) (z == y) (cond_some (is_or_else op && (z == y)) (Truth c) d h).0) ∙ eqb-true y x same)
      (first_of (k z) true (first_of (k z && true) (may_test k c) q)) u
  beside k y same _ d h q u = absurd (none-some d h)

  updated_read : (k : DefinitelyAssigned) (y : Variable) (e : Source) → (y == x) ≡ true → updates rs (operator_of rs y) y e ≡ true → may_take k e ≡ true → k x ≡ false → ⊥
  updated_read k y e same h q u = at (operand op y e) refl (sym (ap (λ o. updates rs o y e) (ap (operator_of rs) (eqb-true y x same) ∙ is)) ∙ h)
    where
      at : (o : Option Source) → operand op y e ≡ o → is_plain_operand rs o ≡ true → ⊥
      at None f g = true≢false (sym g)
      at (Some d) f g = beside k y same e d f q u

  -- the assignment of a choice
  module _ (z : Variable) (e : Expr) (apart : (z == x) ≡ false) where
    assigned_other : (a : Stmt) (k k' : DefinitelyAssigned) → assigns z e a ≡ true → definite P a k ≡ Some k' → k x ≡ false → Unknown k' (targets a)
    assigned_other (Assign y no_exprs (Number d)) k k' h q u =
        let same : y ≡ z = eqb-true y z (first_of (y == z) (same_expr e d) h) in
        let far : (y == x) ≡ false = ap (λ v. v == x) same ∙ apart in (
          sym (ap (λ (j : DefinitelyAssigned). j x) (allowed (may_read_all k no_exprs && may_take k (Number d)) (known_with k y true) k' q).1) ∙ unknown_with k y true far u,
          ap (λ b. b || false) far,
        )
    assigned_other _ k k' h q u = absurd (true≢false (sym h))

    sole_other : (a : Stmt) (k k' : DefinitelyAssigned) → assigns z e (sole a) ≡ true → definite P a k ≡ Some k' → k x ≡ false → Unknown k' (targets a)
    sole_other (Block (stmt a no_items)) k k' h q u =
        let first = and_then (λ after. definite_items P [] no_items (without after [])) (definite P a k) k' q in
        let rest = sole_other a k first.0 h first.1 u in
        (sym (ap (λ (j : DefinitelyAssigned). j x) (same_Some first.0 k' first.2)) ∙ rest.0, among_both (targets a) [] x ∙ ap (λ b. b || false) rest.1)
    sole_other (Block no_items) k k' h q u = assigned_other (Block no_items) k k' h q u
    sole_other (Block (mark line rest)) k k' h q u = assigned_other (Block (mark line rest)) k k' h q u
    sole_other (Block (local y name start rest)) k k' h q u = assigned_other (Block (local y name start rest)) k k' h q u
    sole_other (Block (stmt a (mark line rest))) k k' h q u = assigned_other (Block (stmt a (mark line rest))) k k' h q u
    sole_other (Block (stmt a (local y name start rest))) k k' h q u = assigned_other (Block (stmt a (local y name start rest))) k k' h q u
    sole_other (Block (stmt a (stmt b rest))) k k' h q u = assigned_other (Block (stmt a (stmt b rest))) k k' h q u
    sole_other (Assign y is d) k k' h q u = assigned_other (Assign y is d) k k' h q u
    sole_other (Update y is by d) k k' h q u = assigned_other (Update y is by d) k k' h q u
    sole_other (If c a) k k' h q u = assigned_other (If c a) k k' h q u
    sole_other (IfElse c a b) k k' h q u = assigned_other (IfElse c a b) k k' h q u
    sole_other (For y name start test step body) k k' h q u = assigned_other (For y name start test step body) k k' h q u
    sole_other (Print parts) k k' h q u = assigned_other (Print parts) k k' h q u

  chosen_other : (c : Cond) (a : Stmt) (k k' : DefinitelyAssigned) → is_choice rs c a ≡ true → may_test k c ≡ true → definite P a k ≡ Some k' → k x ≡ false → Unknown k' (targets a)
  chosen_other (Compare by e (Object z no_exprs)) a k k' h t q u =
      sole_other z e
      (false_from_ne_true (z == x) (λ same. absurd (reads k z (eqb-true z x same) (first_of (k z) true (second_of (may_read k e) (k z && true) t)) u)))
      a k k' (second_of (is_selected (operator_of rs z) by) (assigns z e (sole a)) (first_of (is_selected (operator_of rs z) by && assigns z e (sole a)) (names_expr (is_plain rs) e) h)) q u
  chosen_other _ a k k' h t q u = absurd (true≢false (sym h))

  either : (ts us : List Variable) → is_among ts x ≡ false → is_among us x ≡ false → is_among (ts ++ us) x ≡ false
  either ts us p q = among_both ts us x ∙ ap (λ b. b || is_among us x) p ∙ q

  left_unknown : (a b k' : DefinitelyAssigned) → (λ y. a y && b y) ≡ k' → a x ≡ false → k' x ≡ false
  left_unknown a b k' e u = sym (ap (λ (j : DefinitelyAssigned). j x) e) ∙ ap (λ c. c && b x) u

  mutual
    pub unread : (a : Stmt) (k k' : DefinitelyAssigned) → reduces rs a ≡ true → definite P a k ≡ Some k' → k x ≡ false → Unknown k' (targets a)
    unread (Assign y no_exprs e) k k' h q u = at (y == x) refl
      where
        ok : ((may_read_all k no_exprs && may_take k e) ≡ true) × (known_with k y true ≡ k')
        ok = allowed (may_read_all k no_exprs && may_take k e) (known_with k y true) k' q

        at : (b : Bool) → (y == x) ≡ b → Unknown k' (y ∷ [])
        at true same = absurd (updated_read k y e same h (second_of (may_read_all k no_exprs) (may_take k e) ok.0) u)
        at false apart = (sym (ap (λ (j : DefinitelyAssigned). j x) ok.1) ∙ unknown_with k y true apart u, ap (λ b. b || false) apart)
    unread (Assign y (more_exprs i js) e) k k' h q u =
        let ok = allowed (may_read_all k (more_exprs i js) && may_take k e) (known_with k y true) k' q in
        let apart = other y (first_of (is_plain rs y) (names_exprs (is_plain rs) (more_exprs i js)) (first_of (is_plain rs y && names_exprs (is_plain rs) (more_exprs i js)) (names_source (is_plain rs) e) h)) in
        (sym (ap (λ (j : DefinitelyAssigned). j x) ok.1) ∙ unknown_with k y true apart u, refl)
    unread (Update y no_exprs by e) k k' h q u = at (y == x) refl
      where
        ok : ((k y && may_read_all k no_exprs && may_read k e) ≡ true) × (k ≡ k')
        ok = allowed (k y && may_read_all k no_exprs && may_read k e) k k' q

        at : (b : Bool) → (y == x) ≡ b → Unknown k' (y ∷ [])
        at true same = absurd (reads k y (eqb-true y x same) (first_of (k y) (may_read_all k no_exprs) (first_of (k y && may_read_all k no_exprs) (may_read k e) ok.0)) u)
        at false apart = (sym (ap (λ (j : DefinitelyAssigned). j x) ok.1) ∙ u, ap (λ b. b || false) apart)
    unread (Update y (more_exprs i js) by e) k k' h q u =
        (sym (ap (λ (j : DefinitelyAssigned). j x) (allowed (k y && may_read_all k (more_exprs i js) && may_read k e) k k' q).1) ∙ u, refl)
    unread (If c a) k k' h q u =
        let tested = tested_known (may_test k c) (after_both (definite P a k) (Some k)) k' q in
        let parts = branches (definite P a k) (Some k) k' tested.1 in
        let inside = at tested.0 parts.left parts.first (or_cases (is_choice rs c a) (names_cond (is_plain rs) c && reduces rs a) h) (λ r. unread a k parts.left r parts.first u) in
        (left_unknown parts.left parts.right k' parts.is inside.0, inside.1)
      where
        at : may_test k c ≡ true → (j : DefinitelyAssigned) → definite P a k ≡ Some j → (is_choice rs c a ≡ true) ⊎ ((names_cond (is_plain rs) c && reduces rs a) ≡ true) → (reduces rs a ≡ true → Unknown j (targets a)) → Unknown j (targets a)
        at t j d (inl r) rest = chosen_other c a k j r t d u
        at t j d (inr r) rest = rest (second_of (names_cond (is_plain rs) c) (reduces rs a) r)
    unread (IfElse c a b) k k' h q u =
        let tested = tested_known (may_test k c) (after_both (definite P a k) (definite P b k)) k' q in
        let parts = branches (definite P a k) (definite P b k) k' tested.1 in
        let one = unread a k parts.left (second_of (names_cond (is_plain rs) c) (reduces rs a) (first_of (names_cond (is_plain rs) c && reduces rs a) (reduces rs b) h)) parts.first u in
        let two = unread b k parts.right (second_of (names_cond (is_plain rs) c && reduces rs a) (reduces rs b) h) parts.second u in
        (left_unknown parts.left parts.right k' parts.is one.0, either (targets a) (targets b) one.1 two.1)
    unread (For y name start test step body) k k' h q u =
        let told = loop_is_known P y name start test step body k k' q in
        let privates = privates_in P body in
        let heads = first_of (is_plain rs y && names_source (is_plain rs) start && names_cond (is_plain rs) test && names_step (is_plain rs) step) (reduces rs body) h in
        let plain = first_of (is_plain rs y) (names_source (is_plain rs) start) (first_of (is_plain rs y && names_source (is_plain rs) start) (names_cond (is_plain rs) test) (first_of (is_plain rs y && names_source (is_plain rs) start && names_cond (is_plain rs) test) (names_step (is_plain rs) step) heads)) in
        let inside = unread body (without (known_with k y true) privates) told.after (second_of (is_plain rs y && names_source (is_plain rs) start && names_cond (is_plain rs) test && names_step (is_plain rs) step) (reduces rs body) h) told.inside
        (unknown_without privates (known_with k y true) (unknown_with k y true (other y plain) u)) in
        (sym (ap (λ (j : DefinitelyAssigned). j x) told.behind) ∙ unknown_without privates k u, inside.1)
    unread (Block items) k k' h q u = unread_among [] items k k' h q u
    unread (Print parts) k k' h q u = (sym (ap (λ (j : DefinitelyAssigned). j x) (allowed (may_print k parts) k k' q).1) ∙ u, refl)

    unread_among : (pending : List Variable) (items : Items) (k k' : DefinitelyAssigned) → all_reduce rs items ≡ true → definite_items P pending items k ≡ Some k' → k x ≡ false → Unknown k' (targets_among items)
    unread_among pending no_items k k' h q u = (sym (ap (λ (j : DefinitelyAssigned). j x) (same_Some k k' q)) ∙ u, refl)
    unread_among pending (mark line rest) k k' h q u = unread_among (P line) rest k k' h q u
    unread_among pending (local y name start rest) k k' h q u =
        let first = and_then (definite_items P [] rest) (declared_known k y start) k' q in
        let apart = other y (first_of (is_plain rs y) (names_start (is_plain rs) start) (first_of (is_plain rs y && names_start (is_plain rs) start) (all_reduce rs rest) h)) in
        unread_among [] rest first.0 k' (second_of (is_plain rs y && names_start (is_plain rs) start) (all_reduce rs rest) h) first.2 (declared_other y start apart first.0 first.1)
      where
        declared_other : (y : Variable) (start : Option Source) → (y == x) ≡ false → (j : DefinitelyAssigned) → declared_known k y start ≡ Some j → j x ≡ false
        declared_other y None apart j d = sym (ap (λ (i : DefinitelyAssigned). i x) (same_Some (known_with k y false) j d)) ∙ unknown_with k y false apart u
        declared_other y (Some e) apart j d = sym (ap (λ (i : DefinitelyAssigned). i x) (allowed (may_take k e) (known_with k y true) j d).1) ∙ unknown_with k y true apart u
    unread_among pending (stmt a rest) k k' h q u =
        let first = and_then (λ after. definite_items P [] rest (without after pending)) (definite P a k) k' q in
        let one = unread a k first.0 (first_of (reduces rs a) (all_reduce rs rest) h) first.1 u in
        let two = unread_among [] rest (without first.0 pending) k' (second_of (reduces rs a) (all_reduce rs rest) h) first.2 (unknown_without pending first.0 one.0) in
        (two.0, either (targets a) (targets_among rest) one.1 two.1)

  -- one that is assigned is known before
  pub known_before : (a : Stmt) (k k' : DefinitelyAssigned) → reduces rs a ≡ true → definite P a k ≡ Some k' → is_among (targets a) x ≡ true → k x ≡ true
  known_before a k k' h q t = at (k x) refl
    where
      at : (b : Bool) → k x ≡ b → b ≡ true
      at true u = refl
      at false u = absurd (true≢false (sym t ∙ (unread a k k' h q u).1))
