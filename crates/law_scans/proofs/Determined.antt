-- What is known before a statement counts for what it reads alone.
use Rattle.std.specs.Prelude.{Bool, true, false, ◌≡◌, ◌==◌, ◌&&◌, List, [], ◌∷◌, ◌++◌, flat_map, Option, Some, None, option_and_then}
use Rattle.std.proofs.Common.{refl, sym, ap, ◌∙◌, cond}
use Rattle.std.proofs.lemmas.Bool.{true≢false, and_from, or_parts}
use Rattle.std.proofs.lemmas.List.Folds.{list_any-append}
use Rattle.std.proofs.lemmas.Option.{same_Some, none-some}
use Rattle.semantics.specs.Tree.{Variable, Expr, Exprs, Cond, Source, Increment, Up, Down, Set, Change, PrintPart, Stmt, Assign, Update, If, IfElse, For, Block, Print, Items, no_items, mark, local, stmt}
use Rattle.semantics.specs.Meaning.Definite.{DefinitelyAssigned, known_with, without, may_read, may_read_all, may_test, may_take, may_step, may_print, where_ok, after_both, if_stepped, privates_in, definite, definite_items, no_privates}
use Rattle.semantics.specs.Meaning.Agrees.{is_among}
use Rattle.semantics.specs.Directives.Naming.{named_expr, named_exprs, named_cond, named_source, named_step, named_part}
use Rattle.law_commute.proofs.Values.{first_of, second_of}
use Rattle.law_private.proofs.Alike.{may_names, may_names_all, may_names_test, may_names_source, may_names_parts, without_within}
use Rattle.law_private.proofs.Names.{both_true}
use Rattle.law_roles.proofs.Seen.{apart_back}
use Rattle.law_scans.specs.Phases.{joined_items, bare, read_in, read_among, written_in, written_among}
use Rattle.law_scans.proofs.Reading.{Read, read_left, read_right, read_one, read_rest, expr_read, exprs_read, cond_read, source_read, parts_read}

-- ---- what a statement does not write is known behind it only if it was before

module _ (y : Variable) where
  abbrev Before : DefinitelyAssigned → Option DefinitelyAssigned → Type 0
  Before k o = (k' : DefinitelyAssigned) → o ≡ Some k' → k' y ≡ true → k y ≡ true

  before_some : (k j : DefinitelyAssigned) → (j y ≡ true → k y ≡ true) → Before k (Some j)
  before_some k j h k' is there = h (ap (λ (m : DefinitelyAssigned). m y) (same_Some j k' is) ∙ there)

  before_none : (k : DefinitelyAssigned) → Before k None
  before_none k k' is = absurd (none-some k' is)

  before_where : (b : Bool) (k j : DefinitelyAssigned) → (j y ≡ true → k y ≡ true) → Before k (where_ok b j)
  before_where true k j h = before_some k j h
  before_where false k j h = before_none k

  before_if : (b : Bool) (k : DefinitelyAssigned) (o : Option DefinitelyAssigned) → Before k o → Before k (cond b o None)
  before_if true k o h = h
  before_if false k o h = before_none k

  before_then : (k : DefinitelyAssigned) (o : Option DefinitelyAssigned) (f : DefinitelyAssigned → Option DefinitelyAssigned) → Before k o → ((j : DefinitelyAssigned) → Before j (f j)) → Before k (option_and_then f o)
  before_then k None f one two = before_none k
  before_then k (Some j) f one two = λ k' is there. one j refl (two j k' is there)

  before_both : (k : DefinitelyAssigned) (o p : Option DefinitelyAssigned) → Before k o → Before k (after_both o p)
  before_both k None p h = before_none k
  before_both k (Some a) None h = before_none k
  before_both k (Some a) (Some b) h = before_some k (λ z. a z && b z) (λ m. h a refl (first_of (a y) (b y) m))

  before_second : (k : DefinitelyAssigned) (o : Option DefinitelyAssigned) → Before k (after_both o (Some k))
  before_second k None = before_none k
  before_second k (Some a) = before_some k (λ z. a z && k z) (λ m. second_of (a y) (k y) m)

  before_stepped : (ok : DefinitelyAssigned → Bool) (k j : DefinitelyAssigned) (o : Option DefinitelyAssigned) → (j y ≡ true → k y ≡ true) → Before k (if_stepped ok o (Some j))
  before_stepped ok k j None h = before_none k
  before_stepped ok k j (Some a) h = before_if (ok a) k (Some j) (before_some k j h)

  known_other : (k : DefinitelyAssigned) (x : Variable) (b : Bool) → (x == y) ≡ false → known_with k x b y ≡ true → k y ≡ true
  known_other k x b apart h = sym (ap (λ c. cond c b (k y)) (flip apart)) ∙ h
    where
      flip : (x == y) ≡ false → (y == x) ≡ false
      flip e = apart_back x y e

  known_less : (k : DefinitelyAssigned) (x : Variable) → known_with k x false y ≡ true → k y ≡ true
  known_less k x h = at (y == x) h
    where
      at : (c : Bool) → cond c false (k y) ≡ true → k y ≡ true
      at true h = absurd (true≢false (sym h))
      at false h = h

  two_parts : (xs ys : List Variable) → is_among (xs ++ ys) y ≡ false → (is_among xs y ≡ false) × (is_among ys y ≡ false)
  two_parts xs ys h = or_parts (is_among xs y) (is_among ys y) (sym (list_any-append (λ z. z == y) xs ys) ∙ h)

  mutual
    pub known_before : (a : Stmt) → is_among (written_in a) y ≡ false → (k : DefinitelyAssigned) → Before k (definite no_privates a k)
    known_before (Assign x is e) h k = before_where (may_read_all k is && may_take k e) k (known_with k x true) (known_other k x true (or_parts (x == y) false h).0)
    known_before (Update x is op e) h k = before_where (k x && may_read_all k is && may_read k e) k k (λ m. m)
    known_before (If c a) h k = before_if (may_test k c) k (after_both (definite no_privates a k) (Some k)) (before_second k (definite no_privates a k))
    known_before (IfElse c a b) h k =
        before_if (may_test k c) k (after_both (definite no_privates a k) (definite no_privates b k)) (before_both k (definite no_privates a k) (definite no_privates b k) (known_before a (two_parts (written_in a) (written_in b) h).0 k))
    known_before (For x name start test step body) h k =
        let inside = without (known_with k x true) (privates_in no_privates body) in
        before_if (may_take k start && may_test inside test) k (if_stepped (λ after. may_step after step) (definite no_privates body inside) (Some (without k (privates_in no_privates body))))
        (before_stepped (λ after. may_step after step) k (without k (privates_in no_privates body)) (definite no_privates body inside) (without_within (privates_in no_privates body) k y))
    known_before (Block items) h k = items_before items h k
    known_before (Print parts) h k = before_where (may_print k parts) k k (λ m. m)

    pub items_before : (items : Items) → is_among (written_among items) y ≡ false → (k : DefinitelyAssigned) → Before k (definite_items no_privates [] items k)
    items_before no_items h k = before_some k k (λ m. m)
    items_before (mark line rest) h k = items_before rest h k
    items_before (local x name None rest) h k = λ k' is there. known_less k x (items_before rest h (known_with k x false) k' is there)
    items_before (local x name (Some e) rest) h k =
        let parts = or_parts (x == y) (is_among (written_among rest) y) h in
        before_then k (where_ok (may_take k e) (known_with k x true)) (definite_items no_privates [] rest) (before_where (may_take k e) k (known_with k x true) (known_other k x true parts.0)) (λ j. items_before rest parts.1 j)
    items_before (stmt a rest) h k =
        let parts = two_parts (written_in a) (written_among rest) h in
        before_then k (definite no_privates a k) (λ after. definite_items no_privates [] rest after) (known_before a parts.0 k) (λ j. items_before rest parts.1 j)

-- ---- what is known of what is read

module _ (R : Variable → Bool) where
  abbrev pub On : DefinitelyAssigned → DefinitelyAssigned → Type 0
  On k j = (y : Variable) → R y ≡ true → k y ≡ true → j y ≡ true

  abbrev pub Knows : Option DefinitelyAssigned → Option DefinitelyAssigned → Type 0
  Knows None p = Unit {0}
  Knows (Some k) None = ⊥
  Knows (Some k) (Some j) = On k j

  on_with : (k j : DefinitelyAssigned) (x : Variable) (b : Bool) → On k j → On (known_with k x b) (known_with j x b)
  on_with k j x b on y r h = at (y == x) h
    where
      at : (c : Bool) → cond c b (k y) ≡ true → cond c b (j y) ≡ true
      at true m = m
      at false m = on y r m

  on_without : (xs : List Variable) (k j : DefinitelyAssigned) → On k j → On (without k xs) (without j xs)
  on_without [] k j on = on
  on_without (x ∷ xs) k j on = on_without xs (known_with k x false) (known_with j x false) (on_with k j x false on)

  knows_if : (b c : Bool) (o p : Option DefinitelyAssigned) → (b ≡ true → c ≡ true) → Knows o p → Knows (cond b o None) (cond c p None)
  knows_if false c o p h k = tt
  knows_if true true o p h k = k
  knows_if true false o p h k = absurd (true≢false (sym (h refl)))

  knows_where : (b c : Bool) (k j : DefinitelyAssigned) → (b ≡ true → c ≡ true) → On k j → Knows (where_ok b k) (where_ok c j)
  knows_where b c k j h on = knows_if b c (Some k) (Some j) h on

  knows_both : (o p o' p' : Option DefinitelyAssigned) → Knows o o' → Knows p p' → Knows (after_both o p) (after_both o' p')
  knows_both None p o' p' one two = tt
  knows_both (Some a) None o' p' one two = tt
  knows_both (Some a) (Some b) None p' one two = absurd one
  knows_both (Some a) (Some b) (Some c) None one two = absurd two
  knows_both (Some a) (Some b) (Some c) (Some d) one two = λ y r h. and_from (c y) (d y) (one y r (first_of (a y) (b y) h)) (two y r (second_of (a y) (b y) h))

  knows_then : (o p : Option DefinitelyAssigned) (f g : DefinitelyAssigned → Option DefinitelyAssigned) → Knows o p → ((k j : DefinitelyAssigned) → On k j → Knows (f k) (g j)) → Knows (option_and_then f o) (option_and_then g p)
  knows_then None p f g one two = tt
  knows_then (Some k) None f g one two = absurd one
  knows_then (Some k) (Some j) f g one two = two k j one

  knows_stepped : (ok : DefinitelyAssigned → Bool) (o p : Option DefinitelyAssigned) (k j : DefinitelyAssigned) → ((a b : DefinitelyAssigned) → On a b → ok a ≡ true → ok b ≡ true) → Knows o p → On k j
      → Knows (if_stepped ok o (Some k)) (if_stepped ok p (Some j))
  knows_stepped ok None p k j h one on = tt
  knows_stepped ok (Some a) None k j h one on = absurd one
  knows_stepped ok (Some a) (Some b) k j h one on = knows_if (ok a) (ok b) (Some k) (Some j) (h a b one) on

  module _ (k j : DefinitelyAssigned) (on : On k j) where
    swapped : (y : Variable) → k y ≡ true → R y ≡ true → j y ≡ true
    swapped y h r = on y r h

    read_more : (e : Expr) → Read R (named_expr e) → may_read k e ≡ true → may_read j e ≡ true
    read_more e r h = may_names j e ∙ expr_read R k j swapped e (sym (may_names k e) ∙ h) r

    all_more : (es : Exprs) → Read R (named_exprs es) → may_read_all k es ≡ true → may_read_all j es ≡ true
    all_more es r h = may_names_all j es ∙ exprs_read R k j swapped es (sym (may_names_all k es) ∙ h) r

    test_more : (c : Cond) → Read R (named_cond c) → may_test k c ≡ true → may_test j c ≡ true
    test_more c r h = may_names_test j c ∙ cond_read R k j swapped c (sym (may_names_test k c) ∙ h) r

    take_more : (e : Source) → Read R (named_source e) → may_take k e ≡ true → may_take j e ≡ true
    take_more e r h = may_names_source j e ∙ source_read R k j swapped e (sym (may_names_source k e) ∙ h) r

    print_more : (parts : List PrintPart) → Read R (flat_map named_part parts) → may_print k parts ≡ true → may_print j parts ≡ true
    print_more parts r h = may_names_parts j parts ∙ parts_read R k j swapped parts (sym (may_names_parts k parts) ∙ h) r

    step_more : (step : Increment) → Read R (named_step step) → may_step k step ≡ true → may_step j step ≡ true
    step_more (Up x) r h = on x (read_one R x [] r) h
    step_more (Down x) r h = on x (read_one R x [] r) h
    step_more (Set x e) r h = take_more e (read_rest R x (named_source e) r) h
    step_more (Change x op e) r h = both_true (k x) (may_read k e) (j x) (may_read j e) (on x (read_one R x (named_expr e) r)) (read_more e (read_rest R x (named_expr e) r)) h

  mutual
    pub definite_knows : (a : Stmt) → Read R (read_in a) → (k j : DefinitelyAssigned) → On k j → Knows (definite no_privates a k) (definite no_privates a j)
    definite_knows (Assign x is e) r k j on =
        knows_where (may_read_all k is && may_take k e) (may_read_all j is && may_take j e) (known_with k x true) (known_with j x true)
        (both_true (may_read_all k is) (may_take k e) (may_read_all j is) (may_take j e) (all_more k j on is (read_left R (named_exprs is) (named_source e) r)) (take_more k j on e (read_right R (named_exprs is) (named_source e) r)))
        (on_with k j x true on)
    definite_knows (Update x is op e) r k j on =
        let rest = read_rest R x (named_exprs is ++ named_expr e) r in
        knows_where (k x && may_read_all k is && may_read k e) (j x && may_read_all j is && may_read j e) k j
        (both_true (k x && may_read_all k is) (may_read k e) (j x && may_read_all j is) (may_read j e)
        (both_true (k x) (may_read_all k is) (j x) (may_read_all j is) (on x (read_one R x (named_exprs is ++ named_expr e) r)) (all_more k j on is (read_left R (named_exprs is) (named_expr e) rest)))
        (read_more k j on e (read_right R (named_exprs is) (named_expr e) rest)))
        on
    definite_knows (If c a) r k j on =
        knows_if (may_test k c) (may_test j c) (after_both (definite no_privates a k) (Some k)) (after_both (definite no_privates a j) (Some j)) (test_more k j on c (read_left R (named_cond c) (read_in a) r))
        (knows_both (definite no_privates a k) (Some k) (definite no_privates a j) (Some j) (definite_knows a (read_right R (named_cond c) (read_in a) r) k j on) on)
    definite_knows (IfElse c a b) r k j on =
        let two = read_left R (named_cond c ++ read_in a) (read_in b) r in
        knows_if (may_test k c) (may_test j c) (after_both (definite no_privates a k) (definite no_privates b k)) (after_both (definite no_privates a j) (definite no_privates b j))
        (test_more k j on c (read_left R (named_cond c) (read_in a) two))
        (knows_both (definite no_privates a k) (definite no_privates b k) (definite no_privates a j) (definite no_privates b j)
        (definite_knows a (read_right R (named_cond c) (read_in a) two) k j on) (definite_knows b (read_right R (named_cond c ++ read_in a) (read_in b) r) k j on))
    definite_knows (For x name start test step body) r k j on =
        let ps = privates_in no_privates body in
        let a = without (known_with k x true) ps in
        let b = without (known_with j x true) ps in
        let ab : On a b = on_without ps (known_with k x true) (known_with j x true) (on_with k j x true on) in
        let r3 = read_left R (named_source start ++ named_cond test ++ named_step step) (read_in body) r in
        let r2 = read_left R (named_source start ++ named_cond test) (named_step step) r3 in
        knows_if (may_take k start && may_test a test) (may_take j start && may_test b test)
        (if_stepped (λ after. may_step after step) (definite no_privates body a) (Some (without k ps))) (if_stepped (λ after. may_step after step) (definite no_privates body b) (Some (without j ps)))
        (both_true (may_take k start) (may_test a test) (may_take j start) (may_test b test) (take_more k j on start (read_left R (named_source start) (named_cond test) r2)) (test_more a b ab test (read_right R (named_source start) (named_cond test) r2)))
        (knows_stepped (λ after. may_step after step) (definite no_privates body a) (definite no_privates body b) (without k ps) (without j ps)
        (λ c d cd. step_more c d cd step (read_right R (named_source start ++ named_cond test) (named_step step) r3))
        (definite_knows body (read_right R (named_source start ++ named_cond test ++ named_step step) (read_in body) r) a b ab) (on_without ps k j on))
    definite_knows (Block items) r k j on = items_know items r k j on
    definite_knows (Print parts) r k j on = knows_where (may_print k parts) (may_print j parts) k j (print_more k j on parts r) on

    pub items_know : (items : Items) → Read R (read_among items) → (k j : DefinitelyAssigned) → On k j → Knows (definite_items no_privates [] items k) (definite_items no_privates [] items j)
    items_know no_items r k j on = on
    items_know (mark line rest) r k j on = items_know rest r k j on
    items_know (local x name None rest) r k j on = items_know rest r (known_with k x false) (known_with j x false) (on_with k j x false on)
    items_know (local x name (Some e) rest) r k j on =
        knows_then (where_ok (may_take k e) (known_with k x true)) (where_ok (may_take j e) (known_with j x true)) (definite_items no_privates [] rest) (definite_items no_privates [] rest)
        (knows_where (may_take k e) (may_take j e) (known_with k x true) (known_with j x true) (take_more k j on e (read_left R (named_source e) (read_among rest) r)) (on_with k j x true on))
        (λ a b ab. items_know rest (read_right R (named_source e) (read_among rest) r) a b ab)
    items_know (stmt a rest) r k j on =
        knows_then (definite no_privates a k) (definite no_privates a j) (λ after. definite_items no_privates [] rest after) (λ after. definite_items no_privates [] rest after)
        (definite_knows a (read_left R (read_in a) (read_among rest) r) k j on) (λ b c bc. items_know rest (read_right R (read_in a) (read_among rest) r) b c bc)

  -- ---- behind declarations alone

  pub bare_knows : (front back : Items) → Read R (read_among back) → ((y : Variable) → R y ≡ true → is_among (written_among front) y ≡ false) → (k j : DefinitelyAssigned) → On k j
      → Knows (definite_items no_privates [] (joined_items front back) k) (definite_items no_privates [] (joined_items (bare front) back) j)
  bare_knows no_items back r free k j on = items_know back r k j on
  bare_knows (mark line rest) back r free k j on = bare_knows rest back r free k j on
  bare_knows (local x name None rest) back r free k j on = bare_knows rest back r free (known_with k x false) (known_with j x false) (on_with k j x false on)
  bare_knows (local x name (Some e) rest) back r free k j on =
      at (may_take k e) (bare_knows rest back r (λ y h. (or_parts (x == y) (is_among (written_among rest) y) (free y h)).1) (known_with k x true) (known_with j x false) less)
    where
      less : On (known_with k x true) (known_with j x false)
      less y h m =
          let apart = (or_parts (x == y) (is_among (written_among rest) y) (free y h)).0 in
          ap (λ c. cond c false (j y)) (apart_back x y apart) ∙ on y h (known_other y k x true apart m)

      at : (b : Bool) → Knows (definite_items no_privates [] (joined_items rest back) (known_with k x true)) (definite_items no_privates [] (joined_items (bare rest) back) (known_with j x false))
          → Knows (option_and_then (definite_items no_privates [] (joined_items rest back)) (where_ok b (known_with k x true))) (definite_items no_privates [] (joined_items (bare rest) back) (known_with j x false))
      at false go = tt
      at true go = go
  bare_knows (stmt a rest) back r free k j on =
      at (definite no_privates a k) refl (λ k' less. bare_knows rest back r (λ y h. (two_parts y (written_in a) (written_among rest) (free y h)).1) k' j less)
    where
      at : (o : Option DefinitelyAssigned) → definite no_privates a k ≡ o → ((k' : DefinitelyAssigned) → On k' j → Knows (definite_items no_privates [] (joined_items rest back) k') (definite_items no_privates [] (joined_items (bare rest) back) j))
          → Knows (option_and_then (λ after. definite_items no_privates [] (joined_items rest back) after) o) (definite_items no_privates [] (joined_items (bare rest) back) j)
      at None is go = tt
      at (Some k') is go =
          go k'
          (λ y h m. on y h (known_before y a (two_parts y (written_in a) (written_among rest) (free y h)).0 k k' is m))
