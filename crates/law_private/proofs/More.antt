-- What is known grows with what was known before, and with fewer private locals.
use Rattle.std.specs.Prelude.{ℕ, Bool, true, false, ◌≡◌, ◌==◌, ◌&&◌, ◌||◌, List, [], ◌∷◌, ◌++◌, Option, Some, None, option_and_then}
use Rattle.std.proofs.Common.{refl, sym, ap, ◌∙◌, subst, cond}
use Rattle.std.proofs.lemmas.Bool.{true≢false, eqb-true, eq-eqb, or_parts, or_from, or_left, or_right}
use Rattle.std.proofs.lemmas.List.Folds.{list_any-append}
use Rattle.semantics.specs.Tree.{Variable, Expr, Exprs, Cond, Source, Increment, Up, Down, Set, Change, PrintPart, Stmt, Assign, Update, If, IfElse, For, Block, Print, Items, no_items, mark, local, stmt}
use Rattle.semantics.specs.Meaning.Definite.{Privates, DefinitelyAssigned, known_with, without, may_read, may_read_all, may_test, may_take, may_step, may_print, where_ok, after_both, privates_in, privates_among, declared_known, if_stepped, definite, definite_items}
use Rattle.semantics.specs.Meaning.Agrees.{is_among}
use Rattle.law_private.specs.Known.{IsWithin, AreAmong, KnowsMore, MoreIsKnown}
use Rattle.law_private.proofs.Alike.{may_names, may_names_all, may_names_test, may_names_source, may_names_parts, without_within}
use Rattle.law_private.proofs.Names.{both_true, expr_more, exprs_more, cond_more, source_more, parts_more}

-- the first is none, or both are there and stand in this relation
module _ (R : DefinitelyAssigned → DefinitelyAssigned → Type 0) where
  abbrev pub MoreBy : Option DefinitelyAssigned → Option DefinitelyAssigned → Type 0
  MoreBy None p = Unit {0}
  MoreBy (Some k) None = ⊥
  MoreBy (Some k) (Some j) = R k j

  pub more_where : (b c : Bool) (k j : DefinitelyAssigned) → (b ≡ true → c ≡ true) → R k j → MoreBy (where_ok b k) (where_ok c j)
  more_where false c k j h more = tt
  more_where true c k j h more = subst (λ d. MoreBy (Some k) (where_ok d j)) (sym (h refl)) more

  pub more_if : (b c : Bool) (o p : Option DefinitelyAssigned) → (b ≡ true → c ≡ true) → MoreBy o p → MoreBy (cond b o None) (cond c p None)
  more_if false c o p h more = tt
  more_if true c o p h more = subst (λ d. MoreBy o (cond d p None)) (sym (h refl)) more

  pub more_both : ((a b c d : DefinitelyAssigned) → R a c → R b d → R (λ y. a y && b y) (λ y. c y && d y)) → (o p o' p' : Option DefinitelyAssigned) → MoreBy o p → MoreBy o' p'
      → MoreBy (after_both o o') (after_both p p')
  more_both join None p o' p' one two = tt
  more_both join (Some a) p None p' one two = tt
  more_both join (Some a) None (Some b) p' one two = absurd one
  more_both join (Some a) (Some c) (Some b) None one two = absurd two
  more_both join (Some a) (Some c) (Some b) (Some d) one two = join a b c d one two

  pub more_then : (o p : Option DefinitelyAssigned) (f g : DefinitelyAssigned → Option DefinitelyAssigned) → MoreBy o p → ((k j : DefinitelyAssigned) → R k j → MoreBy (f k) (g j))
      → MoreBy (option_and_then f o) (option_and_then g p)
  more_then None p f g one two = tt
  more_then (Some k) None f g one two = absurd one
  more_then (Some k) (Some j) f g one two = two k j one

  pub more_stepped : (o p a b : Option DefinitelyAssigned) (f g : DefinitelyAssigned → Bool) → MoreBy o p → ((k j : DefinitelyAssigned) → R k j → f k ≡ true → g j ≡ true) → MoreBy a b
      → MoreBy (if_stepped f o a) (if_stepped g p b)
  more_stepped None p a b f g one two three = tt
  more_stepped (Some k) None a b f g one two three = absurd one
  more_stepped (Some k) (Some j) a b f g one two three = more_if (f k) (g j) a b (two k j one) three

-- the second knows all that the first does
abbrev More : Option DefinitelyAssigned → Option DefinitelyAssigned → Type 0
More = MoreBy IsWithin

both_within : (a b c d : DefinitelyAssigned) → IsWithin a c → IsWithin b d → IsWithin (λ y. a y && b y) (λ y. c y && d y)
both_within a b c d one two y h = both_true (a y) (b y) (c y) (d y) (one y) (two y) h

-- ---- variables that are left out

-- what is left is not in the list
pub without_gone : (xs : List Variable) (k : DefinitelyAssigned) (y : Variable) → without k xs y ≡ true → is_among xs y ≡ false
without_gone [] k y h = refl
without_gone (x ∷ xs) k y h = or_from (x == y) (is_among xs y) (other (x == y) refl (without_within xs (known_with k x false) y h)) (without_gone xs (known_with k x false) y h)
  where
    other : (b : Bool) → (x == y) ≡ b → cond (y == x) false (k y) ≡ true → b ≡ false
    other false e j = refl
    other true e j = absurd (true≢false (sym j ∙ ap (λ c. cond c false (k y)) (eq-eqb y x (sym (eqb-true x y e)))))

-- and what is not in the list is left
pub without_stays : (xs : List Variable) (k : DefinitelyAssigned) (y : Variable) → k y ≡ true → is_among xs y ≡ false → without k xs y ≡ true
without_stays [] k y h none = h
without_stays (x ∷ xs) k y h none =
    let parts = or_parts (x == y) (is_among xs y) none in
    without_stays xs (known_with k x false) y (at (y == x) refl parts.0) parts.1
  where
    at : (b : Bool) → (y == x) ≡ b → (x == y) ≡ false → cond b false (k y) ≡ true
    at false e free = h
    at true e free = absurd (true≢false (sym (eq-eqb x y (sym (eqb-true y x e))) ∙ free))

without_fewer : (xs ys : List Variable) (k j : DefinitelyAssigned) → AreAmong ys xs → IsWithin k j → IsWithin (without k xs) (without j ys)
without_fewer xs ys k j among more y h = without_stays ys j y (more y (without_within xs k y h)) (at (is_among ys y) refl)
  where
    at : (b : Bool) → is_among ys y ≡ b → is_among ys y ≡ false
    at false e = e
    at true e = absurd (true≢false (sym (among y e) ∙ without_gone xs k y h))

known_more : (k j : DefinitelyAssigned) (x : Variable) (b : Bool) → IsWithin k j → IsWithin (known_with k x b) (known_with j x b)
known_more k j x b more y h = at (y == x) h
  where
    at : (c : Bool) → cond c b (k y) ≡ true → cond c b (j y) ≡ true
    at true e = e
    at false e = more y e

-- lists one behind another
both_among : (xs ys us vs : List Variable) → AreAmong xs us → AreAmong ys vs → AreAmong (xs ++ ys) (us ++ vs)
both_among xs ys us vs one two y h = list_any-append (λ z. z == y) us vs ∙ either (is_among xs y) (is_among ys y) (is_among us y) (is_among vs y) (one y) (two y) (sym (list_any-append (λ z. z == y) xs ys) ∙ h)
  where
    either : (a b c d : Bool) → (a ≡ true → c ≡ true) → (b ≡ true → d ≡ true) → (a || b) ≡ true → (c || d) ≡ true
    either true b c d one two h = or_left c d (one refl)
    either false b c d one two h = or_right c d (two h)

module _ (P Q : Privates) (fewer : (line : ℕ) → AreAmong (Q line) (P line)) where
  mutual
    privates_fewer : (a : Stmt) → AreAmong (privates_in Q a) (privates_in P a)
    privates_fewer (Assign x is e) y h = h
    privates_fewer (Update x is op e) y h = h
    privates_fewer (If c a) y h = privates_fewer a y h
    privates_fewer (IfElse c a b) y h = both_among (privates_in Q a) (privates_in Q b) (privates_in P a) (privates_in P b) (privates_fewer a) (privates_fewer b) y h
    privates_fewer (For x name start test step body) y h = privates_fewer body y h
    privates_fewer (Block items) y h = item_privates_fewer items y h
    privates_fewer (Print parts) y h = h

    item_privates_fewer : (items : Items) → AreAmong (privates_among Q items) (privates_among P items)
    item_privates_fewer no_items y h = h
    item_privates_fewer (mark line rest) y h = both_among (Q line) (privates_among Q rest) (P line) (privates_among P rest) (fewer line) (item_privates_fewer rest) y h
    item_privates_fewer (local x name start rest) y h = item_privates_fewer rest y h
    item_privates_fewer (stmt a rest) y h =
        both_among (privates_in Q a) (privates_among Q rest) (privates_in P a) (privates_among P rest) (privates_fewer a) (item_privates_fewer rest) y h

-- ---- what may be read

module _ (k j : DefinitelyAssigned) (more : IsWithin k j) where
  read_more : (e : Expr) → may_read k e ≡ true → may_read j e ≡ true
  read_more e h = may_names j e ∙ expr_more k j more e (sym (may_names k e) ∙ h)

  read_all_more : (es : Exprs) → may_read_all k es ≡ true → may_read_all j es ≡ true
  read_all_more es h = may_names_all j es ∙ exprs_more k j more es (sym (may_names_all k es) ∙ h)

  test_more : (c : Cond) → may_test k c ≡ true → may_test j c ≡ true
  test_more c h = may_names_test j c ∙ cond_more k j more c (sym (may_names_test k c) ∙ h)

  take_more : (e : Source) → may_take k e ≡ true → may_take j e ≡ true
  take_more e h = may_names_source j e ∙ source_more k j more e (sym (may_names_source k e) ∙ h)

  print_more : (parts : List PrintPart) → may_print k parts ≡ true → may_print j parts ≡ true
  print_more parts h = may_names_parts j parts ∙ parts_more k j more parts (sym (may_names_parts k parts) ∙ h)

  step_taken : (step : Increment) → may_step k step ≡ true → may_step j step ≡ true
  step_taken (Up x) h = more x h
  step_taken (Down x) h = more x h
  step_taken (Set x e) h = take_more e h
  step_taken (Change x op e) h = both_true (k x) (may_read k e) (j x) (may_read j e) (more x) (read_more e) h

  declared_more : (x : Variable) (start : Option Source) → More (declared_known k x start) (declared_known j x start)
  declared_more x None = known_more k j x false more
  declared_more x (Some e) = more_where IsWithin (may_take k e) (may_take j e) (known_with k x true) (known_with j x true) (take_more e) (known_more k j x true more)

-- ---- statements

module _ (P Q : Privates) (fewer : (line : ℕ) → AreAmong (Q line) (P line)) where
  mutual
    definite_more : (a : Stmt) (k j : DefinitelyAssigned) → IsWithin k j → More (definite P a k) (definite Q a j)
    definite_more (Assign x is e) k j more =
        more_where IsWithin (may_read_all k is && may_take k e) (may_read_all j is && may_take j e) (known_with k x true) (known_with j x true)
        (both_true (may_read_all k is) (may_take k e) (may_read_all j is) (may_take j e) (read_all_more k j more is) (take_more k j more e)) (known_more k j x true more)
    definite_more (Update x is op e) k j more =
        more_where IsWithin (k x && may_read_all k is && may_read k e) (j x && may_read_all j is && may_read j e) k j
        (both_true (k x && may_read_all k is) (may_read k e) (j x && may_read_all j is) (may_read j e)
        (both_true (k x) (may_read_all k is) (j x) (may_read_all j is) (more x) (read_all_more k j more is)) (read_more k j more e)) more
    definite_more (If c a) k j more =
        more_if IsWithin (may_test k c) (may_test j c) (after_both (definite P a k) (Some k)) (after_both (definite Q a j) (Some j)) (test_more k j more c)
        (more_both IsWithin both_within (definite P a k) (definite Q a j) (Some k) (Some j) (definite_more a k j more) more)
    definite_more (IfElse c a b) k j more =
        more_if IsWithin (may_test k c) (may_test j c) (after_both (definite P a k) (definite P b k)) (after_both (definite Q a j) (definite Q b j)) (test_more k j more c)
        (more_both IsWithin both_within (definite P a k) (definite Q a j) (definite P b k) (definite Q b j) (definite_more a k j more) (definite_more b k j more))
    definite_more (For x name start test step body) k j more =
        let mine = privates_in P body in
        let own = privates_in Q body in
        let less = privates_fewer P Q fewer body in
        let before = without (known_with k x true) mine in
        let after = without (known_with j x true) own in
        let wider : IsWithin before after = without_fewer mine own (known_with k x true) (known_with j x true) less (known_more k j x true more) in
        more_if IsWithin (may_take k start && may_test before test) (may_take j start && may_test after test)
        (if_stepped (λ l. may_step l step) (definite P body before) (Some (without k mine))) (if_stepped (λ l. may_step l step) (definite Q body after) (Some (without j own)))
        (both_true (may_take k start) (may_test before test) (may_take j start) (may_test after test) (take_more k j more start) (test_more before after wider test))
        (more_stepped IsWithin (definite P body before) (definite Q body after) (Some (without k mine)) (Some (without j own)) (λ l. may_step l step) (λ l. may_step l step)
        (definite_more body before after wider) (λ l m h. step_taken l m h step) (without_fewer mine own k j less more))
    definite_more (Block items) k j more = items_more [] [] items k j (λ y h. h) more
    definite_more (Print parts) k j more = more_where IsWithin (may_print k parts) (may_print j parts) k j (print_more k j more parts) more

    items_more : (pending pending' : List Variable) (items : Items) (k j : DefinitelyAssigned) → AreAmong pending' pending → IsWithin k j → More (definite_items P pending items k) (definite_items Q pending' items j)
    items_more pending pending' no_items k j less more = more
    items_more pending pending' (mark line rest) k j less more = items_more (P line) (Q line) rest k j (fewer line) more
    items_more pending pending' (local x name start rest) k j less more =
        more_then IsWithin (declared_known k x start) (declared_known j x start) (definite_items P [] rest) (definite_items Q [] rest) (declared_more k j more x start)
        (λ l m h. items_more [] [] rest l m (λ y e. e) h)
    items_more pending pending' (stmt a rest) k j less more =
        more_then IsWithin (definite P a k) (definite Q a j) (λ l. definite_items P [] rest (without l pending)) (λ m. definite_items Q [] rest (without m pending')) (definite_more a k j more)
        (λ l m h. items_more [] [] rest (without l pending) (without m pending') (λ y e. e) (without_fewer pending pending' l m less h))

knows_more : (k' : DefinitelyAssigned) (o p : Option DefinitelyAssigned) → More o p → o ≡ Some k' → KnowsMore k' p
knows_more k' o p h is = at p (subst (λ q. More q p) is h)
  where
    at : (q : Option DefinitelyAssigned) → More (Some k') q → KnowsMore k' q
    at None m = absurd m
    at (Some j) m = record { known = j; is = refl; more = m }

pub more_known : MoreIsKnown
more_known = record {
  statements = λ P Q a k k' j fewer more is. knows_more k' (definite P a k) (definite Q a j) (definite_more P Q fewer a k j more) is;
  items = λ P Q pending pending' items k k' j fewer less more is.
      knows_more k' (definite_items P pending items k) (definite_items Q pending' items j) (items_more P Q fewer pending pending' items k j less more) is;
}
