-- A statement does the same from states that agree in what it reads.
use Rattle.std.specs.Prelude.{ℕ, zero, suc, Bool, true, false, ◌≡◌, ◌==◌, ◌&&◌, ◌||◌, ◌⊎◌, List, [], ◌∷◌, ◌++◌, flat_map, Option, Some, None}
use Rattle.std.proofs.Common.{refl, sym, ap, ◌∙◌, cond, inl, inr}
use Rattle.std.proofs.lemmas.Bool.{true≢false, eqb-true, eq-eqb, and_from, or_left, or_right, or_cases}
use Rattle.std.proofs.lemmas.List.Folds.{list_any-append}
use Rattle.semantics.specs.Tree.{Variable, Expr, Literal, Bare, Constant, Object, Unary, Binary, Conditional, Exprs, no_exprs, more_exprs, Cond, NotZero, Compare, Not, LogicalAnd, LogicalOr, Source, Number, Truth, BinaryOp, Plus, Minus, Increment, Up, Down, Set, Change, PrintPart, Characters, Decimal, Stmt, Assign, Update, If, IfElse, For, Block, Print, Items, no_items, mark, local, stmt}
use Rattle.semantics.specs.Meaning.State.{State, Slot, Outside, Empty, Holds, Declared, Assigned, renewed, same_indexes, with_local, assign_at, is_there, look, is_object, is_object_in, written}
use Rattle.semantics.specs.Meaning.Value.{operate, map_option, both_then, value, values, holds, source_value}
use Rattle.semantics.specs.Meaning.Runs.{nothing, one_write, then_from, declares, declared, assigned, updated, incremented, print_text, turns, greatest_trip_count, run, run_items}
use Rattle.semantics.specs.Meaning.Agrees.{also, is_among, names_expr, names_exprs, names_cond, names_source, names_start, names_step, names_parts, names_only, names_items}
use Rattle.semantics.specs.Directives.Naming.{named_expr, named_exprs, named_cond, named_source, named_start, named_step, named_part}
use Rattle.semantics.specs.Loops.Piece.{is_outside}
use Rattle.law_commute.proofs.Values.{first_of, second_of}
use Rattle.law_private.proofs.Alike.{Both, both_none, both_some, both_like, both_test, both_steps, both_weaker}
use Rattle.law_private.proofs.Seen.{value_seen, values_seen, holds_seen, source_seen, text_seen}
use Rattle.law_roles.proofs.Seen.{look_of}
use Rattle.law_scans.specs.Phases.{read_in, read_among}

module _ (R : Variable → Bool) where
  -- all of these are read
  abbrev pub Read : List Variable → Type 0
  Read xs = (y : Variable) → is_among xs y ≡ true → R y ≡ true

  pub read_left : (xs ys : List Variable) → Read (xs ++ ys) → Read xs
  read_left xs ys h y k = h y (list_any-append (λ z. z == y) xs ys ∙ or_left (is_among xs y) (is_among ys y) k)

  pub read_right : (xs ys : List Variable) → Read (xs ++ ys) → Read ys
  read_right xs ys h y k = h y (list_any-append (λ z. z == y) xs ys ∙ or_right (is_among xs y) (is_among ys y) k)

  pub read_one : (x : Variable) (xs : List Variable) → Read (x ∷ xs) → R x ≡ true
  read_one x xs h = h x (or_left (x == x) (is_among xs x) (eq-eqb x x refl))

  pub read_rest : (x : Variable) (xs : List Variable) → Read (x ∷ xs) → Read xs
  read_rest x xs h y k = h y (or_right (x == y) (is_among xs y) k)

  -- ---- what names these and reads those names both

  module _ (V F : Variable → Bool) (more : (y : Variable) → V y ≡ true → R y ≡ true → F y ≡ true) where
    mutual
      pub expr_read : (e : Expr) → names_expr V e ≡ true → Read (named_expr e) → names_expr F e ≡ true
      expr_read (Literal n suffix) h r = refl
      expr_read (Constant name n) h r = refl
      expr_read (Object x is) h r =
          and_from (F x) (names_exprs F is) (more x (first_of (V x) (names_exprs V is) h) (read_one x (named_exprs is) r)) (exprs_read is (second_of (V x) (names_exprs V is) h) (read_rest x (named_exprs is) r))
      expr_read (Unary op a) h r = expr_read a h r
      expr_read (Binary op a b) h r =
          and_from (names_expr F a) (names_expr F b) (expr_read a (first_of (names_expr V a) (names_expr V b) h) (read_left (named_expr a) (named_expr b) r))
          (expr_read b (second_of (names_expr V a) (names_expr V b) h) (read_right (named_expr a) (named_expr b) r))
      expr_read (Conditional c a b) h r =
          let h2 = first_of (names_cond V c && names_expr V a) (names_expr V b) h in
          let r2 = read_left (named_cond c ++ named_expr a) (named_expr b) r in
          and_from (names_cond F c && names_expr F a) (names_expr F b)
          (and_from (names_cond F c) (names_expr F a) (cond_read c (first_of (names_cond V c) (names_expr V a) h2) (read_left (named_cond c) (named_expr a) r2))
          (expr_read a (second_of (names_cond V c) (names_expr V a) h2) (read_right (named_cond c) (named_expr a) r2)))
          (expr_read b (second_of (names_cond V c && names_expr V a) (names_expr V b) h) (read_right (named_cond c ++ named_expr a) (named_expr b) r))

      pub exprs_read : (es : Exprs) → names_exprs V es ≡ true → Read (named_exprs es) → names_exprs F es ≡ true
      exprs_read no_exprs h r = refl
      exprs_read (more_exprs e es) h r =
          and_from (names_expr F e) (names_exprs F es) (expr_read e (first_of (names_expr V e) (names_exprs V es) h) (read_left (named_expr e) (named_exprs es) r))
          (exprs_read es (second_of (names_expr V e) (names_exprs V es) h) (read_right (named_expr e) (named_exprs es) r))

      pub cond_read : (c : Cond) → names_cond V c ≡ true → Read (named_cond c) → names_cond F c ≡ true
      cond_read (NotZero e) h r = expr_read e h r
      cond_read (Compare op a b) h r =
          and_from (names_expr F a) (names_expr F b) (expr_read a (first_of (names_expr V a) (names_expr V b) h) (read_left (named_expr a) (named_expr b) r))
          (expr_read b (second_of (names_expr V a) (names_expr V b) h) (read_right (named_expr a) (named_expr b) r))
      cond_read (Not c) h r = cond_read c h r
      cond_read (LogicalAnd c d) h r =
          and_from (names_cond F c) (names_cond F d) (cond_read c (first_of (names_cond V c) (names_cond V d) h) (read_left (named_cond c) (named_cond d) r))
          (cond_read d (second_of (names_cond V c) (names_cond V d) h) (read_right (named_cond c) (named_cond d) r))
      cond_read (LogicalOr c d) h r =
          and_from (names_cond F c) (names_cond F d) (cond_read c (first_of (names_cond V c) (names_cond V d) h) (read_left (named_cond c) (named_cond d) r))
          (cond_read d (second_of (names_cond V c) (names_cond V d) h) (read_right (named_cond c) (named_cond d) r))

    pub source_read : (e : Source) → names_source V e ≡ true → Read (named_source e) → names_source F e ≡ true
    source_read (Number e) h r = expr_read e h r
    source_read (Truth c) h r = cond_read c h r

    pub parts_read : (parts : List PrintPart) → names_parts V parts ≡ true → Read (flat_map named_part parts) → names_parts F parts ≡ true
    parts_read [] h r = refl
    parts_read (Characters bs ∷ ps) h r = parts_read ps h r
    parts_read (Decimal e ∷ ps) h r =
        and_from (names_expr F e) (names_parts F ps) (expr_read e (first_of (names_expr V e) (names_parts V ps) h) (read_left (named_expr e) (flat_map named_part ps) r))
        (parts_read ps (second_of (names_expr V e) (names_parts V ps) h) (read_right (named_expr e) (flat_map named_part ps) r))

  -- ---- states that agree in what is read

  -- the same objects are there, and those that are read hold the same
  pub record Meets (V : Variable → Bool) (s t : State) : Type 0 where
    pub kinds : (y : Variable) → V y ≡ true → is_outside (s.locals y) ≡ is_outside (t.locals y)
    pub there : (y : Variable) (is : List ℕ) → is_there (s.cells y is) ≡ is_there (t.cells y is)
    pub slots : (y : Variable) → V y ≡ true → R y ≡ true → s.locals y ≡ t.locals y
    pub cells : (y : Variable) (is : List ℕ) → R y ≡ true → s.cells y is ≡ t.cells y is

  pub meets_less : (V : Variable → Bool) (x : Variable) (s t : State) → Meets (also V x) s t → Meets V s t
  meets_less V x s t m = record {
    kinds = λ y v. m.kinds y (or_right (y == x) (V y) v);
    there = m.there;
    slots = λ y v r. m.slots y (or_right (y == x) (V y) v) r;
    cells = m.cells;
  }

  pub meets_local : (V : Variable → Bool) (x : Variable) (l : Slot) (s t : State) → Meets V s t → Meets (also V x) (with_local s x l) (with_local t x l)
  meets_local V x l s t m = record {
    kinds = λ y v. kind y (y == x) v (m.kinds y);
    there = m.there;
    slots = λ y v r. slot y (y == x) v (λ k. m.slots y k r);
    cells = m.cells;
  }
    where
      kind : (y : Variable) (b : Bool) → (b || V y) ≡ true → (V y ≡ true → is_outside (s.locals y) ≡ is_outside (t.locals y)) → is_outside (cond b l (s.locals y)) ≡ is_outside (cond b l (t.locals y))
      kind y true h rest = refl
      kind y false h rest = rest h

      slot : (y : Variable) (b : Bool) → (b || V y) ≡ true → (V y ≡ true → s.locals y ≡ t.locals y) → cond b l (s.locals y) ≡ cond b l (t.locals y)
      slot y true h rest = refl
      slot y false h rest = rest h

  module _ (V : Variable → Bool) (s t : State) (m : Meets V s t) where
    abbrev F : Variable → Bool
    F y = V y && R y

    seen : (y : Variable) (is : List ℕ) → F y ≡ true → look s y is ≡ look t y is
    seen y is h = look_of y s t (m.slots y (first_of (V y) (R y) h) (second_of (V y) (R y) h)) (λ js. m.cells y js (second_of (V y) (R y) h)) is

    more : (y : Variable) → V y ≡ true → R y ≡ true → F y ≡ true
    more y v r = and_from (V y) (R y) v r

    value_same : (e : Expr) → names_expr V e ≡ true → Read (named_expr e) → value s e ≡ value t e
    value_same e h r = value_seen F s t seen e (expr_read V F more e h r)

    values_same : (es : Exprs) → names_exprs V es ≡ true → Read (named_exprs es) → values s es ≡ values t es
    values_same es h r = values_seen F s t seen es (exprs_read V F more es h r)

    holds_same : (c : Cond) → names_cond V c ≡ true → Read (named_cond c) → holds s c ≡ holds t c
    holds_same c h r = holds_seen F s t seen c (cond_read V F more c h r)

    source_same : (e : Source) → names_source V e ≡ true → Read (named_source e) → source_value s e ≡ source_value t e
    source_same e h r = source_seen F s t seen e (source_read V F more e h r)

    text_same : (parts : List PrintPart) → names_parts V parts ≡ true → Read (flat_map named_part parts) → print_text s parts ≡ print_text t parts
    text_same parts h r = text_seen F s t seen parts (parts_read V F more parts h r)

    -- ---- writes

    same_object : (x : Variable) (is : List ℕ) → V x ≡ true → is_object s x is ≡ is_object t x is
    same_object x is v = at (s.locals x) (t.locals x) (m.kinds x v)
      where
        at : (l k : Slot) → is_outside l ≡ is_outside k → is_object_in l s x is ≡ is_object_in k t x is
        at Outside Outside e = m.there x is
        at Outside Empty e = absurd (true≢false e)
        at Outside (Holds n) e = absurd (true≢false e)
        at Empty Outside e = absurd (true≢false (sym e))
        at (Holds n) Outside e = absurd (true≢false (sym e))
        at Empty Empty e = refl
        at Empty (Holds n) e = refl
        at (Holds n) Empty e = refl
        at (Holds n) (Holds j) e = refl

    meets_assigned : (x : Variable) (is : List ℕ) (n : ℕ) → V x ≡ true → Meets V (written s (Assigned x is n)) (written t (Assigned x is n))
    meets_assigned x is n v = at (s.locals x) (t.locals x) (m.kinds x v)
      where
        inside : Meets V (with_local s x (Holds n)) (with_local t x (Holds n))
        inside = meets_less V x (with_local s x (Holds n)) (with_local t x (Holds n)) (meets_local V x (Holds n) s t m)

        renews : (b : Bool) (c d : Option ℕ) → is_there c ≡ is_there d → is_there (cond b (renewed c n) c) ≡ is_there (cond b (renewed d n) d)
        renews false c d e = e
        renews true None None e = refl
        renews true None (Some j) e = absurd (true≢false (sym e))
        renews true (Some j) None e = absurd (true≢false e)
        renews true (Some j) (Some k) e = refl

        at : (l k : Slot) → is_outside l ≡ is_outside k → Meets V (assign_at l s x is n) (assign_at k t x is n)
        at Outside Outside e = record {
          kinds = m.kinds;
          there = λ y js. renews ((y == x) && same_indexes js is) (s.cells y js) (t.cells y js) (m.there y js);
          slots = m.slots;
          cells = λ y js r. ap (λ c. cond ((y == x) && same_indexes js is) (renewed c n) c) (m.cells y js r);
        }
        at Outside Empty e = absurd (true≢false e)
        at Outside (Holds j) e = absurd (true≢false e)
        at Empty Outside e = absurd (true≢false (sym e))
        at (Holds j) Outside e = absurd (true≢false (sym e))
        at Empty Empty e = inside
        at Empty (Holds j) e = inside
        at (Holds j) Empty e = inside
        at (Holds i) (Holds j) e = inside

    put_same : (x : Variable) (is is' : Option (List ℕ)) (o p : Option ℕ) → V x ≡ true → is ≡ is' → o ≡ p → Both (Meets V) s t (assigned s x is o) (assigned t x is' p)
    put_same x is is' o p v e f = both_like (Meets V) s t refl (λ i. assigned t x (sym e i) (sym f i)) (at is o)
      where
        at : (is : Option (List ℕ)) (o : Option ℕ) → Both (Meets V) s t (assigned s x is o) (assigned t x is o)
        at None o = both_none (Meets V) s t
        at (Some ks) None = both_none (Meets V) s t
        at (Some ks) (Some n) = both_like (Meets V) s t refl (ap (λ b. cond b (Some (one_write (Assigned x ks n))) None) (sym (same_object x ks v))) (go (is_object s x ks))
          where
            go : (b : Bool) → Both (Meets V) s t (cond b (Some (one_write (Assigned x ks n))) None) (cond b (Some (one_write (Assigned x ks n))) None)
            go true = both_some (Meets V) s t (one_write (Assigned x ks n)) (meets_assigned x ks n v)
            go false = both_none (Meets V) s t

    updated_same : (x : Variable) (is : Exprs) (op : BinaryOp) (e : Expr) → V x ≡ true → names_exprs V is ≡ true → names_expr V e ≡ true → R x ≡ true → Read (named_exprs is) → Read (named_expr e) → Both (Meets V) s t (updated s x is op e) (updated t x is op e)
    updated_same x is op e v ni ne r ri re =
        put_same x (values s is) (values t is) (both_then (operate op) (value s (Object x is)) (value s e)) (both_then (operate op) (value t (Object x is)) (value t e)) v (values_same is ni ri)
        (λ i. both_then (operate op) (value_same (Object x is) (and_from (V x) (names_exprs V is) v ni) all i) (value_same e ne re i))
      where
        all : Read (x ∷ named_exprs is)
        all y h = at (or_cases (x == y) (is_among (named_exprs is) y) h)
          where
            at : ((x == y) ≡ true) ⊎ (is_among (named_exprs is) y ≡ true) → R y ≡ true
            at (inl e) = ap R (sym (eqb-true x y e)) ∙ r
            at (inr k) = ri y k

    step_same : (step : Increment) → names_step V step ≡ true → Read (named_step step) → Both (Meets V) s t (incremented s step) (incremented t step)
    step_same (Up x) v r = updated_same x no_exprs Plus (Literal 1 Bare) v refl refl (read_one x [] r) (λ y h. absurd (true≢false (sym h))) (λ y h. absurd (true≢false (sym h)))
    step_same (Down x) v r = updated_same x no_exprs Minus (Literal 1 Bare) v refl refl (read_one x [] r) (λ y h. absurd (true≢false (sym h))) (λ y h. absurd (true≢false (sym h)))
    step_same (Set x e) v r =
        put_same x (Some []) (Some []) (source_value s e) (source_value t e) (first_of (V x) (names_source V e) v) refl (source_same e (second_of (V x) (names_source V e) v) (read_rest x (named_source e) r))
    step_same (Change x op e) v r =
        updated_same x no_exprs op e (first_of (V x) (names_expr V e) v) refl (second_of (V x) (names_expr V e) v) (read_one x (named_expr e) r) (λ y h. absurd (true≢false (sym h))) (read_rest x (named_expr e) r)

    declared_same : (x : Variable) (start : Option Source) → names_start V start ≡ true → Read (named_start start) → Both (Meets (also V x)) s t (declared s x start) (declared t x start)
    declared_same x None h r = both_some (Meets (also V x)) s t (one_write (Declared x None)) (meets_local V x Empty s t m)
    declared_same x (Some e) h r = both_like (Meets (also V x)) s t refl (ap (declares x) (sym (source_same e h r))) (at (source_value s e))
      where
        at : (o : Option ℕ) → Both (Meets (also V x)) s t (declares x o) (declares x o)
        at None = both_none (Meets (also V x)) s t
        at (Some n) = both_some (Meets (also V x)) s t (one_write (Declared x (Some n))) (meets_local V x (Holds n) s t m)

    printed_same : (parts : List PrintPart) → names_parts V parts ≡ true → Read (flat_map named_part parts) → Both (Meets V) s t (run (Print parts) s) (run (Print parts) t)
    printed_same parts h r = both_like (Meets V) s t refl (ap (map_option (λ b. record { writes = []; text = b })) (sym (text_same parts h r))) (at (print_text s parts))
      where
        at : (o : Option (List ℕ)) → Both (Meets V) s t (map_option (λ b. record { writes = []; text = b }) o) (map_option (λ b. record { writes = []; text = b }) o)
        at None = both_none (Meets V) s t
        at (Some b) = both_some (Meets V) s t (record { writes = []; text = b }) m

  -- ---- statements

  turns_same : (V : Variable → Bool) (test : Cond) (body : Stmt) (step : Increment) → names_cond V test ≡ true → Read (named_cond test) → names_step V step ≡ true → Read (named_step step)
      → ((s t : State) → Meets V s t → Both (Meets V) s t (run body s) (run body t)) → (n : ℕ) (s t : State) → Meets V s t
      → Both (Meets V) s t (turns n (λ u. holds u test) (run body) (λ u. incremented u step) s) (turns n (λ u. holds u test) (run body) (λ u. incremented u step) t)
  turns_same V test body step tested rt stepped rs goes zero s t m =
      both_test (Meets V) s t (holds s test) (holds t test) None (Some nothing) None (Some nothing) (holds_same V s t m test tested rt) (both_none (Meets V) s t) (both_some (Meets V) s t nothing m)
  turns_same V test body step tested rt stepped rs goes (suc n) s t m =
      let more = turns n (λ u. holds u test) (run body) (λ u. incremented u step) in
      both_test (Meets V) s t (holds s test) (holds t test)
      (then_from s (run body s) (λ u. then_from u (incremented u step) more)) (Some nothing)
      (then_from t (run body t) (λ u. then_from u (incremented u step) more)) (Some nothing) (holds_same V s t m test tested rt)
      (both_steps (Meets V) (Meets V) s t (run body s) (run body t) (λ u. then_from u (incremented u step) more) (λ u. then_from u (incremented u step) more) (goes s t m)
      (λ u v k. both_steps (Meets V) (Meets V) u v (incremented u step) (incremented v step) more more (step_same V u v k step stepped rs)
      (λ u' v' j. turns_same V test body step tested rt stepped rs goes n u' v' j)))
      (both_some (Meets V) s t nothing m)

  mutual
    pub stmt_same : (a : Stmt) (V : Variable → Bool) → names_only V a ≡ true → Read (read_in a) → (s t : State) → Meets V s t → Both (Meets V) s t (run a s) (run a t)
    stmt_same (Assign x is e) V h r s t m =
        let front = first_of (V x && names_exprs V is) (names_source V e) h in
        put_same V s t m x (values s is) (values t is) (source_value s e) (source_value t e) (first_of (V x) (names_exprs V is) front)
        (values_same V s t m is (second_of (V x) (names_exprs V is) front) (read_left (named_exprs is) (named_source e) r))
        (source_same V s t m e (second_of (V x && names_exprs V is) (names_source V e) h) (read_right (named_exprs is) (named_source e) r))
    stmt_same (Update x is op e) V h r s t m =
        let front = first_of (V x && names_exprs V is) (names_expr V e) h in
        let rest = read_rest x (named_exprs is ++ named_expr e) r in
        updated_same V s t m x is op e (first_of (V x) (names_exprs V is) front) (second_of (V x) (names_exprs V is) front) (second_of (V x && names_exprs V is) (names_expr V e) h)
        (read_one x (named_exprs is ++ named_expr e) r) (read_left (named_exprs is) (named_expr e) rest) (read_right (named_exprs is) (named_expr e) rest)
    stmt_same (If c a) V h r s t m =
        both_test (Meets V) s t (holds s c) (holds t c) (run a s) (Some nothing) (run a t) (Some nothing)
        (holds_same V s t m c (first_of (names_cond V c) (names_only V a) h) (read_left (named_cond c) (read_in a) r))
        (stmt_same a V (second_of (names_cond V c) (names_only V a) h) (read_right (named_cond c) (read_in a) r) s t m) (both_some (Meets V) s t nothing m)
    stmt_same (IfElse c a b) V h r s t m =
        let front = first_of (names_cond V c && names_only V a) (names_only V b) h in
        let two = read_left (named_cond c ++ read_in a) (read_in b) r in
        both_test (Meets V) s t (holds s c) (holds t c) (run a s) (run b s) (run a t) (run b t)
        (holds_same V s t m c (first_of (names_cond V c) (names_only V a) front) (read_left (named_cond c) (read_in a) two))
        (stmt_same a V (second_of (names_cond V c) (names_only V a) front) (read_right (named_cond c) (read_in a) two) s t m)
        (stmt_same b V (second_of (names_cond V c && names_only V a) (names_only V b) h) (read_right (named_cond c ++ read_in a) (read_in b) r) s t m)
    stmt_same (For x name start test step body) V h r s t m =
        let W = also V x in
        let h3 = first_of (names_source V start && names_cond W test && names_step W step) (names_only W body) h in
        let h2 = first_of (names_source V start && names_cond W test) (names_step W step) h3 in
        let r3 = read_left (named_source start ++ named_cond test ++ named_step step) (read_in body) r in
        let r2 = read_left (named_source start ++ named_cond test) (named_step step) r3 in
        let all = turns greatest_trip_count (λ u. holds u test) (run body) (λ u. incremented u step) in
        both_weaker (Meets W) (Meets V) s t (run (For x name start test step body) s) (run (For x name start test step body) t) (λ u v k. meets_less V x u v k)
        (both_steps (Meets W) (Meets W) s t (declared s x (Some start)) (declared t x (Some start)) all all
        (declared_same V s t m x (Some start) (first_of (names_source V start) (names_cond W test) h2) (read_left (named_source start) (named_cond test) r2))
        (λ u v k. turns_same W test body step (second_of (names_source V start) (names_cond W test) h2) (read_right (named_source start) (named_cond test) r2)
        (second_of (names_source V start && names_cond W test) (names_step W step) h3) (read_right (named_source start ++ named_cond test) (named_step step) r3)
        (λ u' v' j. stmt_same body W (second_of (names_source V start && names_cond W test && names_step W step) (names_only W body) h) (read_right (named_source start ++ named_cond test ++ named_step step) (read_in body) r) u' v' j) greatest_trip_count u v k))
    stmt_same (Block items) V h r s t m = items_same items V h r s t m
    stmt_same (Print parts) V h r s t m = printed_same V s t m parts h r

    pub items_same : (items : Items) (V : Variable → Bool) → names_items V items ≡ true → Read (read_among items) → (s t : State) → Meets V s t → Both (Meets V) s t (run_items items s) (run_items items t)
    items_same no_items V h r s t m = both_some (Meets V) s t nothing m
    items_same (mark line rest) V h r s t m = items_same rest V h r s t m
    items_same (local x name start rest) V h r s t m =
        let W = also V x in
        both_weaker (Meets W) (Meets V) s t (run_items (local x name start rest) s) (run_items (local x name start rest) t) (λ u v k. meets_less V x u v k)
        (both_steps (Meets W) (Meets W) s t (declared s x start) (declared t x start) (run_items rest) (run_items rest)
        (declared_same V s t m x start (first_of (names_start V start) (names_items W rest) h) (read_left (named_start start) (read_among rest) r))
        (λ u v k. items_same rest W (second_of (names_start V start) (names_items W rest) h) (read_right (named_start start) (read_among rest) r) u v k))
    items_same (stmt a rest) V h r s t m =
        both_steps (Meets V) (Meets V) s t (run a s) (run a t) (run_items rest) (run_items rest)
        (stmt_same a V (first_of (names_only V a) (names_items V rest) h) (read_left (read_in a) (read_among rest) r) s t m)
        (λ u v k. items_same rest V (second_of (names_only V a) (names_items V rest) h) (read_right (read_in a) (read_among rest) r) u v k)
