-- A statement beside that of its operands.
use Rattle.std.specs.Prelude.{ℕ, zero, suc, Bool, true, false, ◌≡◌, ◌==◌, ◌&&◌, ◌||◌, ◌⊎◌, min, max, nat_lt, List, [], ◌∷◌, ◌++◌, Option, Some, None, IsSome, is_none}
use Rattle.std.specs.List.{list_any}
use Rattle.std.proofs.Common.{refl, sym, ap, ◌∙◌, subst, cond, inl, inr, arith}
use Rattle.std.proofs.lemmas.Bool.{true≢false, ltb-true, ltb-false, eqb-true, or_cases, or_parts, or_left, or_right}
use Rattle.std.proofs.lemmas.List.{append-nil}
use Rattle.std.proofs.lemmas.List.Folds.{list_any-append}
use Rattle.std.proofs.lemmas.Option.{none-some, same_Some, cond_some}
use Rattle.semantics.specs.Tree.{Variable, BinaryOp, Plus, Minus, Times, BitAnd, BitOr, BitXor, CompareOp, Less, Greater, Expr, Literal, Bare, Object, Binary, Exprs, no_exprs, more_exprs, Cond, NotZero, Compare, LogicalAnd, LogicalOr, Source, Number, Truth, Increment, Up, Down, Set, Change, PrintPart, Stmt, Assign, Update, If, IfElse, For, Block, Print, Items, no_items, mark, local, stmt}
use Rattle.semantics.specs.Meaning.State.{State, Slot, Outside, Empty, Holds, Write, Declared, Assigned, renewed, same_indexes, slot_of, assign_at, look, is_object, written, overwritten}
use Rattle.semantics.specs.Meaning.Value.{operate, compare, map_option, both, both_then, by_test, value, values, holds, source_value}
use Rattle.semantics.specs.Meaning.Runs.{Effect, nothing, one_write, joined, then_from, declares, declared, assigned, updated, incremented, print_text, turns, greatest_trip_count, run, run_items}
use Rattle.semantics.specs.Meaning.Agrees.{names_expr, names_exprs, names_cond, names_source, names_start, names_step, names_parts}
use Rattle.semantics.specs.Loops.Operator.{ReduceOp, Sum, Product, And, Or, Xor, AndAlso, OrElse, Max, Min, apply, one_if, is_set}
use Rattle.semantics.specs.Loops.Piece.{is_outside, is_update}
use Rattle.semantics.proofs.NestLaw.{local_same}
use Rattle.law_commute.proofs.Matched.{overwritten-append}
use Rattle.law_commute.proofs.Values.{first_of, second_of}
use Rattle.law_roles.specs.Updates.{operator_of, is_plain, combines, is_and_also, is_or_else, selects, operand, sole, assigns, is_selected, is_choice, is_plain_operand, updates, updates_by, reduces, all_reduce, or_else, operand_of, operand_by, operands, all_operands, same_expr}
use Rattle.law_roles.specs.Reducing.{AgreesBut, AreHeld, AreLocal}
use Rattle.law_roles.proofs.Trees.{same_expr_is}
use Rattle.law_private.proofs.Seen.{source_seen, value_seen, values_seen, holds_seen, text_seen}
use Rattle.law_roles.proofs.Seen.{apart_back, look_of, object_of, Only, only_declared, only_assigned, only_look, takes, taken}

-- ---- operators

-- its assignments stand behind a test
abbrev pub is_chosen : ReduceOp → Bool
is_chosen Max = true
is_chosen Min = true
is_chosen _ = false

-- what is assigned to a variable, combined with a number
abbrev pub folded : ReduceOp → Variable → List Write → ℕ → ℕ
folded op x [] v = v
folded op x (Declared y w ∷ ws) v = folded op x ws v
folded op x (Assigned y is w ∷ ws) v = folded op x ws (cond (y == x) (apply op v w) v)

abbrev pub hit : Variable → List Write → Bool
hit x ws = list_any (is_update x) ws

pub folded-append : (op : ReduceOp) (x : Variable) (ws vs : List Write) (v : ℕ) → folded op x (ws ++ vs) v ≡ folded op x vs (folded op x ws v)
folded-append op x [] vs v = refl
folded-append op x (Declared y w ∷ ws) vs v = folded-append op x ws vs v
folded-append op x (Assigned y is w ∷ ws) vs v = folded-append op x ws vs (cond (y == x) (apply op v w) v)

combines_is : (op : ReduceOp) (by : BinaryOp) (v n : ℕ) → combines op by ≡ true → operate by v n ≡ Some (apply op v n)
combines_is Sum Plus v n h = refl
combines_is Product Times v n h = refl
combines_is And BitAnd v n h = refl
combines_is Or BitOr v n h = refl
combines_is Xor BitXor v n h = refl
combines_is _ _ v n h = absurd (true≢false (sym h))

and_also_is : (op : ReduceOp) → is_and_also op ≡ true → op ≡ AndAlso
and_also_is AndAlso h = refl
and_also_is _ h = absurd (true≢false (sym h))

or_else_is : (op : ReduceOp) → is_or_else op ≡ true → op ≡ OrElse
or_else_is OrElse h = refl
or_else_is _ h = absurd (true≢false (sym h))

is_set-one_if : (b : Bool) → is_set (one_if b) ≡ b
is_set-one_if true = refl
is_set-one_if false = refl

-- each operand of it is taken
pub record TakesAll (op : ReduceOp) : Type 0 where
  pub and_also : is_and_also op ≡ false
  pub or_else : is_or_else op ≡ false

and_also_taken : (w : Bool) (q : Option Bool) (n : ℕ) → map_option one_if q ≡ Some n → map_option one_if (by_test (Some w) q (Some false)) ≡ Some (one_if (w && is_set n))
and_also_taken w None n h = absurd (none-some n h)
and_also_taken true (Some b) n h = ap Some (ap one_if (sym (is_set-one_if b)) ∙ ap (λ m. one_if (is_set m)) (same_Some (one_if b) n h))
and_also_taken false (Some b) n h = refl

or_else_taken : (w : Bool) (q : Option Bool) (n : ℕ) → map_option one_if q ≡ Some n → map_option one_if (by_test (Some w) (Some true) q) ≡ Some (one_if (w || is_set n))
or_else_taken w None n h = absurd (none-some n h)
or_else_taken true (Some b) n h = refl
or_else_taken false (Some b) n h = ap Some (ap one_if (sym (is_set-one_if b)) ∙ ap (λ m. one_if (is_set m)) (same_Some (one_if b) n h))

-- what a choice leaves
record Chooses (op : ReduceOp) (by : CompareOp) (v n : ℕ) : Type 0 where
  chosen : is_chosen op ≡ true
  taken : compare by n v ≡ true → apply op v n ≡ n
  kept : compare by n v ≡ false → apply op v n ≡ v

chooses : (op : ReduceOp) (by : CompareOp) (v n : ℕ) → selects op by ≡ true → Chooses op by v n
chooses Min Less v n h = record { chosen = refl; taken = λ k. least_taken v n k; kept = λ k. least_kept v n k }
  where
    least_taken : (v n : ℕ) → nat_lt n v ≡ true → min v n ≡ n
    least_taken v n k = let lt = ltb-true n v k in omega (arith, lt)

    least_kept : (v n : ℕ) → nat_lt n v ≡ false → min v n ≡ v
    least_kept v n k = let le = ltb-false n v k in omega (arith, le)
chooses Max Greater v n h = record { chosen = refl; taken = λ k. greatest_taken v n k; kept = λ k. greatest_kept v n k }
  where
    greatest_taken : (v n : ℕ) → nat_lt v n ≡ true → max v n ≡ n
    greatest_taken v n k = let lt = ltb-true v n k in omega (arith, lt)

    greatest_kept : (v n : ℕ) → nat_lt v n ≡ false → max v n ≡ v
    greatest_kept v n k = let le = ltb-false v n k in omega (arith, le)
chooses _ _ v n h = absurd (true≢false (sym h))

-- an assignment in the statement is one in its operands; the other way round one may stand behind a test
pub record Marks (op : ReduceOp) (a b : Bool) : Type 0 where
  pub more : a ≡ true → b ≡ true
  pub less : b ≡ true → a ≡ false → is_chosen op ≡ true

marks_both : (op : ReduceOp) (a b c d : Bool) → Marks op a b → Marks op c d → Marks op (a || c) (b || d)
marks_both op a b c d one two = record { more = λ h. up (or_cases a c h); less = λ h k. down (or_cases b d h) (or_parts a c k) }
  where
    up : (a ≡ true) ⊎ (c ≡ true) → (b || d) ≡ true
    up (inl h) = or_left b d (one.more h)
    up (inr h) = or_right b d (two.more h)

    down : (b ≡ true) ⊎ (d ≡ true) → (a ≡ false) × (c ≡ false) → is_chosen op ≡ true
    down (inl h) k = one.less h k.0
    down (inr h) k = two.less h k.1

marks_same : (op : ReduceOp) (a : Bool) → Marks op a a
marks_same op a = record { more = λ h. h; less = λ h k. absurd (true≢false (sym h ∙ k)) }

-- what is assigned by a choice
pub assigns_is : (x : Variable) (e : Expr) (a : Stmt) → assigns x e a ≡ true → a ≡ Assign x no_exprs (Number e)
assigns_is x e (Assign y no_exprs (Number d)) h =
    let one = eqb-true y x (first_of (y == x) (same_expr e d) h) in
    let two = same_expr_is e d (second_of (y == x) (same_expr e d) h) in
    λ i. Assign (one i) no_exprs (Number (sym two i))
assigns_is x e _ h = absurd (true≢false (sym h))

module _ (rs : List (Variable × ReduceOp)) where
  abbrev V : Variable → Bool
  V = is_plain rs

  -- a plain variable is none of those reduced
  plain_apart : (x y : Variable) (op : ReduceOp) → V x ≡ true → operator_of rs y ≡ Some op → (y == x) ≡ false
  plain_apart x y op plain is = at (y == x) refl
    where
      at : (b : Bool) → (y == x) ≡ b → (y == x) ≡ false
      at true e = absurd (true≢false (sym plain ∙ ap V (sym (eqb-true y x e)) ∙ ap is_none is))
      at false e = e

  apart_plain : (x y : Variable) (op : ReduceOp) → operator_of rs x ≡ Some op → V y ≡ true → (y == x) ≡ false
  apart_plain x y op is plain = at (y == x) refl
    where
      at : (b : Bool) → (y == x) ≡ b → (y == x) ≡ false
      at true e = absurd (true≢false (sym plain ∙ ap V (eqb-true y x e) ∙ ap is_none is))
      at false e = e

  -- ---- states side by side

  -- the statement runs in the first, and that of its operands in the second
  pub record Beside (s t : State) : Type 0 where
    pub agrees : AgreesBut rs s t
    pub held : AreHeld rs s
    pub own : AreLocal rs t

  -- what writes in the first and writes in the second leave
  pub record At (s t s' t' : State) (ws vs : List Write) : Type 0 where
    pub after : Beside s' t'
    pub values : (x : Variable) (op : ReduceOp) (v : ℕ) → operator_of rs x ≡ Some op → look s x [] ≡ Some v → look s' x [] ≡ Some (folded op x vs v)
    pub marks : (x : Variable) (op : ReduceOp) → operator_of rs x ≡ Some op → Marks op (hit x ws) (hit x vs)
    pub still : (x : Variable) (op : ReduceOp) → operator_of rs x ≡ Some op → hit x ws ≡ false → look s' x [] ≡ look s x []

  pub at_nothing : (s t : State) → Beside s t → At s t s t [] []
  at_nothing s t b = record { after = b; values = λ x op v is h. h; marks = λ x op is. marks_same op false; still = λ x op is h. refl }

  pub at_then : (s t s1 t1 s2 t2 : State) (ws vs ws' vs' : List Write) → At s t s1 t1 ws vs → At s1 t1 s2 t2 ws' vs' → At s t s2 t2 (ws ++ ws') (vs ++ vs')
  at_then s t s1 t1 s2 t2 ws vs ws' vs' one two = record {
    after = two.after;
    values = λ x op v is h. two.values x op (folded op x vs v) is (one.values x op v is h) ∙ ap Some (sym (folded-append op x vs vs' v));
    marks = λ x op is.
        subst (λ b. Marks op b (hit x (vs ++ vs'))) (sym (list_any-append (is_update x) ws ws'))
        (subst (λ b. Marks op (hit x ws || hit x ws') b) (sym (list_any-append (is_update x) vs vs')) (marks_both op (hit x ws) (hit x vs) (hit x ws') (hit x vs') (one.marks x op is) (two.marks x op is)));
    still = λ x op is h.
        let parts = or_parts (hit x ws) (hit x ws') (sym (list_any-append (is_update x) ws ws') ∙ h) in
        two.still x op is parts.1 ∙ one.still x op is parts.0;
  }

  -- two effects
  pub record Follows (s t : State) (f e : Effect) : Type 0 where
    pub text : e.text ≡ f.text
    pub at : At s t (overwritten s e.writes) (overwritten t f.writes) e.writes f.writes

  -- where the operands have a run, so has the statement, and where each operand is taken, only there
  module _ (all : Bool) where
    abbrev pub Shadows : State → State → Option Effect → Option Effect → Type 0
    Shadows s t None None = Unit {0}
    Shadows s t None (Some e) = all ≡ true → ⊥
    Shadows s t (Some f) None = ⊥
    Shadows s t (Some f) (Some e) = Follows s t f e

    shadows_like : (s t : State) (p p' o o' : Option Effect) → p ≡ p' → o ≡ o' → Shadows s t p' o' → Shadows s t p o
    shadows_like s t p p' o o' e f h = subst (λ q. Shadows s t q o) (sym e) (subst (λ q. Shadows s t p' q) (sym f) h)

    pub shadows_nothing : (s t : State) → Beside s t → Shadows s t (Some nothing) (Some nothing)
    shadows_nothing s t b = record { text = refl; at = at_nothing s t b }

    shadows_test : (s t : State) (b c : Option Bool) (p p' o o' : Option Effect) → c ≡ b → Shadows s t p o → Shadows s t p' o' → Shadows s t (by_test b p p') (by_test c o o')
    shadows_test s t b c p p' o o' e one two = subst (λ d. Shadows s t (by_test b p p') (by_test d o o')) (sym e) (at b)
      where
        at : (d : Option Bool) → Shadows s t (by_test d p p') (by_test d o o')
        at None = tt
        at (Some true) = one
        at (Some false) = two

    pub shadows_steps : (s t : State) (p o : Option Effect) (g f : State → Option Effect) → Shadows s t p o → ((u v : State) → Beside u v → Shadows u v (g v) (f u))
        → Shadows s t (then_from t p g) (then_from s o f)
    shadows_steps s t None None g f one two = tt
    shadows_steps s t None (Some e) g f one two = at (f (overwritten s e.writes))
      where
        at : (o : Option Effect) → Shadows s t None (map_option (joined e) o)
        at None = tt
        at (Some a) = one
    shadows_steps s t (Some d) None g f one two = absurd one
    shadows_steps s t (Some d) (Some e) g f one two = at (g (overwritten t d.writes)) (f (overwritten s e.writes)) (two (overwritten s e.writes) (overwritten t d.writes) one.at.after)
      where
        at : (p o : Option Effect) → Shadows (overwritten s e.writes) (overwritten t d.writes) p o → Shadows s t (map_option (joined d) p) (map_option (joined e) o)
        at None None h = tt
        at None (Some a) h = h
        at (Some b) None h = absurd h
        at (Some b) (Some a) h = record {
          text = λ i. one.text i ++ h.text i;
          at =
              subst (λ u. At s t u (overwritten t (d.writes ++ b.writes)) (e.writes ++ a.writes) (d.writes ++ b.writes)) (sym (overwritten-append s e.writes a.writes))
              (subst (λ u. At s t (overwritten (overwritten s e.writes) a.writes) u (e.writes ++ a.writes) (d.writes ++ b.writes)) (sym (overwritten-append t d.writes b.writes))
              (at_then s t (overwritten s e.writes) (overwritten t d.writes) (overwritten (overwritten s e.writes) a.writes) (overwritten (overwritten t d.writes) b.writes) e.writes d.writes a.writes b.writes one.at h.at));
        }

    -- ---- what is seen

    module _ (s t : State) (b : Beside s t) where
      looks : (x : Variable) (is : List ℕ) → V x ≡ true → look s x is ≡ look t x is
      looks x is plain = look_of x s t (b.agrees.locals x plain) (λ js. b.agrees.cells x js plain) is

      -- ---- writes to plain variables

      -- both take the same write to a variable that is not reduced
      module _ (x : Variable) (plain : V x ≡ true) (s' t' : State) (one : Only x s s') (two : Only x t t') (local_same : s'.locals x ≡ t'.locals x) (cells_same : (is : List ℕ) → s'.cells x is ≡ t'.cells x is) where
        beside_plain : Beside s' t'
        beside_plain = record {
          agrees = record { locals = λ y h. locals y h (y == x) refl; cells = λ y is h. cells y is h (y == x) refl };
          held = λ y op is. subst (λ o. IsSome o) (sym (only_look x s s' one y (plain_apart x y op plain is) [])) (b.held y op is);
          own = λ y op is. ap is_outside (two.locals y (plain_apart x y op plain is)) ∙ b.own y op is;
        }
          where
            locals : (y : Variable) → V y ≡ true → (c : Bool) → (y == x) ≡ c → s'.locals y ≡ t'.locals y
            locals y h true e = ap s'.locals (eqb-true y x e) ∙ local_same ∙ sym (ap t'.locals (eqb-true y x e))
            locals y h false e = one.locals y e ∙ b.agrees.locals y h ∙ sym (two.locals y e)

            cells : (y : Variable) (is : List ℕ) → V y ≡ true → (c : Bool) → (y == x) ≡ c → s'.cells y is ≡ t'.cells y is
            cells y is h true e = ap (λ z. s'.cells z is) (eqb-true y x e) ∙ cells_same is ∙ sym (ap (λ z. t'.cells z is) (eqb-true y x e))
            cells y is h false e = one.cells y is e ∙ b.agrees.cells y is h ∙ sym (two.cells y is e)

        at_plain : (w : Write) → ((y : Variable) (op : ReduceOp) → operator_of rs y ≡ Some op → is_update y w ≡ false) → ((y : Variable) (op : ReduceOp) (v : ℕ) → operator_of rs y ≡ Some op → folded op y (w ∷ []) v ≡ v)
            → At s t s' t' (w ∷ []) (w ∷ [])
        at_plain w never same = record {
          after = beside_plain;
          values = λ y op v is h. only_look x s s' one y (plain_apart x y op plain is) [] ∙ h ∙ ap Some (sym (same y op v is));
          marks = λ y op is. marks_same op (hit y (w ∷ []));
          still = λ y op is h. only_look x s s' one y (plain_apart x y op plain is) [];
        }

      pub declared_plain : (x : Variable) (v : Option ℕ) → V x ≡ true → Shadows s t (Some (one_write (Declared x v))) (Some (one_write (Declared x v)))
      declared_plain x v plain = record {
        text = refl;
        at = at_plain x plain (written s (Declared x v)) (written t (Declared x v)) (only_declared x v s) (only_declared x v t)
            (local_same s x (slot_of v) ∙ sym (local_same t x (slot_of v))) (λ is. b.agrees.cells x is plain) (Declared x v) (λ y op is. refl) (λ y op w is. refl);
      }

      assigned_plain : (x : Variable) (is : List ℕ) (n : ℕ) → V x ≡ true → Shadows s t (Some (one_write (Assigned x is n))) (Some (one_write (Assigned x is n)))
      assigned_plain x is n plain = record {
        text = refl;
        at = at_plain x plain (written s (Assigned x is n)) (written t (Assigned x is n)) (only_assigned x is n s) (only_assigned x is n t) (locals (s.locals x) (t.locals x) refl refl (b.agrees.locals x plain))
            (λ js. cells js (s.locals x) (t.locals x) (b.agrees.locals x plain)) (Assigned x is n) (λ y op h. other y op h)
            (λ y op v h. ap (λ c. cond c (apply op v n) v) (other y op h));
      }
        where
          other : (y : Variable) (op : ReduceOp) → operator_of rs y ≡ Some op → (x == y) ≡ false
          other y op h = apart_plain y x op h plain

          locals : (l m : Slot) → s.locals x ≡ l → t.locals x ≡ m → s.locals x ≡ t.locals x → (assign_at l s x is n).locals x ≡ (assign_at m t x is n).locals x
          locals Outside Outside e f h = h
          locals Outside Empty e f h = absurd (true≢false (ap is_outside (sym e ∙ h ∙ f)))
          locals Outside (Holds k) e f h = absurd (true≢false (ap is_outside (sym e ∙ h ∙ f)))
          locals Empty Outside e f h = absurd (true≢false (sym (ap is_outside (sym e ∙ h ∙ f))))
          locals Empty Empty e f h = local_same s x (Holds n) ∙ sym (local_same t x (Holds n))
          locals Empty (Holds k) e f h = local_same s x (Holds n) ∙ sym (local_same t x (Holds n))
          locals (Holds j) Outside e f h = absurd (true≢false (sym (ap is_outside (sym e ∙ h ∙ f))))
          locals (Holds j) Empty e f h = local_same s x (Holds n) ∙ sym (local_same t x (Holds n))
          locals (Holds j) (Holds k) e f h = local_same s x (Holds n) ∙ sym (local_same t x (Holds n))

          cells : (js : List ℕ) (l m : Slot) → l ≡ m → (assign_at l s x is n).cells x js ≡ (assign_at m t x is n).cells x js
          cells js l m e = subst (λ q. (assign_at l s x is n).cells x js ≡ (assign_at q t x is n).cells x js) e (here l)
            where
              here : (l : Slot) → (assign_at l s x is n).cells x js ≡ (assign_at l t x is n).cells x js
              here Outside = ap (λ c. cond ((x == x) && same_indexes js is) (renewed c n) c) (b.agrees.cells x js plain)
              here Empty = b.agrees.cells x js plain
              here (Holds k) = b.agrees.cells x js plain

      put_plain : (x : Variable) (is : Option (List ℕ)) (o : Option ℕ) → V x ≡ true → Shadows s t (assigned t x is o) (assigned s x is o)
      put_plain x None o plain = tt
      put_plain x (Some ks) None plain = tt
      put_plain x (Some ks) (Some n) plain =
          subst (λ c. Shadows s t (assigned t x (Some ks) (Some n)) (cond c (Some (one_write (Assigned x ks n))) None)) (sym (object_of x s t (b.agrees.locals x plain) (λ js. b.agrees.cells x js plain) ks))
          (at (is_object t x ks))
        where
          at : (c : Bool) → Shadows s t (cond c (Some (one_write (Assigned x ks n))) None) (cond c (Some (one_write (Assigned x ks n))) None)
          at true = assigned_plain x ks n plain
          at false = tt

      put_like : (x : Variable) (is is' : Option (List ℕ)) (o o' : Option ℕ) → V x ≡ true → is ≡ is' → o ≡ o' → Shadows s t (assigned t x is' o') (assigned s x is o)
      put_like x is is' o o' plain e f = shadows_like s t _ _ _ _ refl (λ i. assigned s x (e i) (f i)) (put_plain x is' o' plain)

      updated_plain : (x : Variable) (is : Exprs) (op : BinaryOp) (e : Expr) → V x ≡ true → names_exprs V is ≡ true → names_expr V e ≡ true → Shadows s t (updated t x is op e) (updated s x is op e)
      updated_plain x is op e plain h h' =
          let places = values_seen V s t looks is h in
          let one = value_seen V s t looks (Object x is) (λ i. plain i && h i) in
          let two = value_seen V s t looks e h' in
          put_like x (values s is) (values t is) _ _ plain places (λ i. both_then (operate op) (one i) (two i))

      incremented_plain : (step : Increment) → names_step V step ≡ true → Shadows s t (incremented t step) (incremented s step)
      incremented_plain (Up x) h = updated_plain x no_exprs Plus (Literal 1 Bare) h refl refl
      incremented_plain (Down x) h = updated_plain x no_exprs Minus (Literal 1 Bare) h refl refl
      incremented_plain (Set x e) h = put_like x (Some []) (Some []) (source_value s e) (source_value t e) (first_of (V x) (names_source V e) h) refl (source_seen V s t looks e (second_of (V x) (names_source V e) h))
      incremented_plain (Change x op e) h = updated_plain x no_exprs op e (first_of (V x) (names_expr V e) h) refl (second_of (V x) (names_expr V e) h)

      declared_start : (x : Variable) (start : Option Source) → V x ≡ true → names_start V start ≡ true → Shadows s t (declared t x start) (declared s x start)
      declared_start x None plain h = declared_plain x None plain
      declared_start x (Some e) plain h = shadows_like s t _ _ _ _ refl (ap (declares x) (source_seen V s t looks e h)) (at (source_value t e))
        where
          at : (o : Option ℕ) → Shadows s t (declares x o) (declares x o)
          at None = tt
          at (Some n) = declared_plain x (Some n) plain

      printed : (parts : List PrintPart) → names_parts V parts ≡ true → Shadows s t (run (Print parts) t) (run (Print parts) s)
      printed parts h = shadows_like s t _ _ _ _ refl (ap (map_option (λ q. record { writes = []; text = q })) (text_seen V s t looks parts h)) (at (print_text t parts))
        where
          at : (o : Option (List ℕ)) → Shadows s t (map_option (λ q. record { writes = []; text = q }) o) (map_option (λ q. record { writes = []; text = q }) o)
          at None = tt
          at (Some q) = record { text = refl; at = at_nothing s t b }

      -- ---- updates

      module _ (x : Variable) (op : ReduceOp) (v : ℕ) (is : operator_of rs x ≡ Some op) (holds_v : look s x [] ≡ Some v) where
        -- the first takes what is combined, the second the operand
        module _ (s' : State) (n : ℕ) (one : Only x s s') (now : look s' x [] ≡ Some (apply op v n)) where
          t1 : State
          t1 = written t (Assigned x [] n)

          beside_update : Beside s' (written t (Assigned x [] n))
          beside_update = record {
            agrees = record {
              locals = λ y h. let other = plain_other y h in one.locals y other ∙ b.agrees.locals y h ∙ sym ((only_assigned x [] n t).locals y other);
              cells = λ y js h. let other = plain_other y h in one.cells y js other ∙ b.agrees.cells y js h ∙ sym ((only_assigned x [] n t).cells y js other);
            };
            held = λ y other h. held y other h (y == x) refl;
            own = λ y other h. own y other h (y == x) refl;
          }
            where
              plain_other : (y : Variable) → V y ≡ true → (y == x) ≡ false
              plain_other y h = apart_plain x y op is h

              held : (y : Variable) (other : ReduceOp) → operator_of rs y ≡ Some other → (c : Bool) → (y == x) ≡ c → IsSome (look s' y [])
              held y other h true e = subst (λ z. IsSome (look s' z [])) (sym (eqb-true y x e)) (subst (λ o. IsSome o) (sym now) refl)
              held y other h false e = subst (λ o. IsSome o) (sym (only_look x s s' one y e [])) (b.held y other h)

              own : (y : Variable) (other : ReduceOp) → operator_of rs y ≡ Some other → (c : Bool) → (y == x) ≡ c → is_outside ((written t (Assigned x [] n)).locals y) ≡ false
              own y other h true e = ap (λ z. is_outside ((written t (Assigned x [] n)).locals z)) (eqb-true y x e) ∙ ap is_outside (taken t x n (b.own x op is)).holds
              own y other h false e = ap is_outside ((only_assigned x [] n t).locals y e) ∙ b.own y other h

          values_update : (y : Variable) (other : ReduceOp) (w : ℕ) → operator_of rs y ≡ Some other → look s y [] ≡ Some w → look s' y [] ≡ Some (folded other y (Assigned x [] n ∷ []) w)
          values_update y other w h k = at (x == y) refl
            where
              at : (c : Bool) → (x == y) ≡ c → look s' y [] ≡ Some (cond (x == y) (apply other w n) w)
              at true e =
                  let same : x ≡ y = eqb-true x y e in
                  let ops : op ≡ other = same_Some op other (sym is ∙ ap (operator_of rs) same ∙ h) in
                  let numbers : v ≡ w = same_Some v w (sym holds_v ∙ ap (λ z. look s z []) same ∙ k) in
                  ap (λ z. look s' z []) (sym same) ∙ now ∙ (λ i. Some (apply (ops i) (numbers i) n)) ∙ ap (λ c. Some (cond c (apply other w n) w)) (sym e)
              at false e = only_look x s s' one y (apart_back x y e) [] ∙ k ∙ ap (λ c. Some (cond c (apply other w n) w)) (sym e)

        -- both assign
        follows_update : (n : ℕ) → Follows s t (one_write (Assigned x [] n)) (one_write (Assigned x [] (apply op v n)))
        follows_update n =
            let s' : State = written s (Assigned x [] (apply op v n)) in
            let one = only_assigned x [] (apply op v n) s in
            let now = (takes s x v (apply op v n) holds_v).holds in
            record {
              text = refl;
              at = record {
                after = beside_update s' n one now;
                values = values_update s' n one now;
                marks = λ y other h. marks_same other ((x == y) || false);
                still = λ y other h k. only_look x s s' one y (apart_back x y (or_parts (x == y) false k).0) [];
              };
            }

        -- the second alone assigns
        follows_kept : (n : ℕ) → is_chosen op ≡ true → apply op v n ≡ v → Follows s t (one_write (Assigned x [] n)) nothing
        follows_kept n chosen kept =
            let one : Only x s s = record { locals = λ y e. refl; cells = λ y js e. refl } in
            let now : look s x [] ≡ Some (apply op v n) = holds_v ∙ ap Some (sym kept) in
            record {
              text = refl;
              at = record {
                after = beside_update s n one now;
                values = values_update s n one now;
                marks = λ y other h. record { more = λ k. absurd (true≢false (sym k)); less = λ k j. of y other h (or_cases (x == y) false k) };
                still = λ y other h k. refl;
              };
            }
          where
            of : (y : Variable) (other : ReduceOp) → operator_of rs y ≡ Some other → ((x == y) ≡ true) ⊎ (false ≡ true) → is_chosen other ≡ true
            of y other h (inl e) = ap is_chosen (same_Some other op (sym h ∙ ap (operator_of rs) (sym (eqb-true x y e)) ∙ is)) ∙ chosen
            of y other h (inr e) = absurd (true≢false (sym e))

        -- what the first assigns, by the operand
        record Combined (m k : Option ℕ) : Type 0 where
          some : (n : ℕ) → m ≡ Some n → k ≡ Some (apply op v n)
          none : m ≡ None → all ≡ true → k ≡ None

        put_t : (n : ℕ) → assigned t x (Some []) (Some n) ≡ Some (one_write (Assigned x [] n))
        put_t n = ap (λ c. cond c (Some (one_write (Assigned x [] n))) None) (taken t x n (b.own x op is)).there

        put_s : (n : ℕ) → assigned s x (Some []) (Some n) ≡ Some (one_write (Assigned x [] n))
        put_s n = ap (λ c. cond c (Some (one_write (Assigned x [] n))) None) (takes s x v n holds_v).there

        put_update : (m k : Option ℕ) → Combined m k → Shadows s t (assigned t x (Some []) m) (assigned s x (Some []) k)
        put_update (Some n) k c =
            shadows_like s t (assigned t x (Some []) (Some n)) (Some (one_write (Assigned x [] n))) (assigned s x (Some []) k) (Some (one_write (Assigned x [] (apply op v n)))) (put_t n)
            (ap (assigned s x (Some [])) (c.some n refl) ∙ put_s (apply op v n)) (follows_update n)
        put_update None None c = tt
        put_update None (Some n) c = shadows_like s t None None (assigned s x (Some []) (Some n)) (Some (one_write (Assigned x [] n))) refl (put_s n) (λ h. none-some n (sym (c.none refl h)))

        operand_combined : (all ≡ true → TakesAll op) → (e d : Source) → operand op x e ≡ Some d → names_source V d ≡ true → Combined (source_value t d) (source_value s e)
        operand_combined full (Number (Binary by (Object y no_exprs) a)) d h named =
            let parts = cond_some (combines op by && (y == x)) (Number a) d h in
            let here : y ≡ x = eqb-true y x (second_of (combines op by) (y == x) parts.0) in
            let seen : value s a ≡ source_value t d = value_seen V s t looks a (subst (λ z. names_source V z ≡ true) (sym parts.1) named) ∙ ap (source_value t) parts.1 in
            let is : both_then (operate by) (look s y []) (value s a) ≡ both_then (operate by) (Some v) (source_value t d) =
            λ i. both_then (operate by) ((ap (λ z. look s z []) here ∙ holds_v) i) (seen i) in
            record {
              some = λ n k. is ∙ ap (both_then (operate by) (Some v)) k ∙ combines_is op by v n (first_of (combines op by) (y == x) parts.0);
              none = λ k taken. is ∙ ap (both_then (operate by) (Some v)) k;
            }
        operand_combined full (Truth (LogicalAnd (NotZero (Object y no_exprs)) c)) d h named =
            let parts = cond_some (is_and_also op && (y == x)) (Truth c) d h in
            let kind = first_of (is_and_also op) (y == x) parts.0 in
            let here : y ≡ x = eqb-true y x (second_of (is_and_also op) (y == x) parts.0) in
            let seen : holds s c ≡ holds t c = holds_seen V s t looks c (subst (λ z. names_source V z ≡ true) (sym parts.1) named) in
            let is : map_option one_if (by_test (map_option is_set (look s y [])) (holds s c) (Some false)) ≡ map_option one_if (by_test (Some (is_set v)) (holds t c) (Some false)) =
            λ i. map_option one_if (by_test (map_option is_set ((ap (λ z. look s z []) here ∙ holds_v) i)) (seen i) (Some false)) in
            record {
              some = λ n k.
                  is ∙ and_also_taken (is_set v) (holds t c) n (ap (source_value t) parts.1 ∙ k)
                  ∙ ap (λ (o : ReduceOp). Some (apply o v n)) (sym (and_also_is op kind));
              none = λ k taken. absurd (true≢false (sym kind ∙ (full taken).and_also));
            }
        operand_combined full (Truth (LogicalOr (NotZero (Object y no_exprs)) c)) d h named =
            let parts = cond_some (is_or_else op && (y == x)) (Truth c) d h in
            let kind = first_of (is_or_else op) (y == x) parts.0 in
            let here : y ≡ x = eqb-true y x (second_of (is_or_else op) (y == x) parts.0) in
            let seen : holds s c ≡ holds t c = holds_seen V s t looks c (subst (λ z. names_source V z ≡ true) (sym parts.1) named) in
            let is : map_option one_if (by_test (map_option is_set (look s y [])) (Some true) (holds s c)) ≡ map_option one_if (by_test (Some (is_set v)) (Some true) (holds t c)) =
            λ i. map_option one_if (by_test (map_option is_set ((ap (λ z. look s z []) here ∙ holds_v) i)) (Some true) (seen i)) in
            record {
              some = λ n k.
                  is ∙ or_else_taken (is_set v) (holds t c) n (ap (source_value t) parts.1 ∙ k)
                  ∙ ap (λ (o : ReduceOp). Some (apply o v n)) (sym (or_else_is op kind));
              none = λ k taken. absurd (true≢false (sym kind ∙ (full taken).or_else));
            }
        operand_combined full _ d h named = absurd (none-some d h)

        -- an assignment that is an update
        update_shadow : (all ≡ true → TakesAll op) → (e : Source) → is_plain_operand rs (operand op x e) ≡ true
            → Shadows s t (assigned t x (Some []) (source_value t (or_else e (operand op x e)))) (assigned s x (Some []) (source_value s e))
        update_shadow full e h = at (operand op x e) refl h
          where
            at : (o : Option Source) → operand op x e ≡ o → is_plain_operand rs o ≡ true → Shadows s t (assigned t x (Some []) (source_value t (or_else e o))) (assigned s x (Some []) (source_value s e))
            at None is k = absurd (true≢false (sym k))
            at (Some d) is k = put_update (source_value t d) (source_value s e) (operand_combined full e d is k)

        -- op=
        by_shadow : (by : BinaryOp) (e : Expr) → combines op by ≡ true → names_expr V e ≡ true → Shadows s t (assigned t x (Some []) (value t e)) (updated s x no_exprs by e)
        by_shadow by e fits named =
            let seen = value_seen V s t looks e named in
            let is : both_then (operate by) (look s x []) (value s e) ≡ both_then (operate by) (Some v) (value t e) = λ i. both_then (operate by) (holds_v i) (seen i) in
            put_update (value t e) (both_then (operate by) (look s x []) (value s e))
            (record { some = λ n k. is ∙ ap (both_then (operate by) (Some v)) k ∙ combines_is op by v n fits; none = λ k taken. is ∙ ap (both_then (operate by) (Some v)) k })

        -- an assignment behind a test
        choice_shadow : (by : CompareOp) (e : Expr) → selects op by ≡ true → names_expr V e ≡ true
            → Shadows s t (assigned t x (Some []) (value t e)) (by_test (both (compare by) (value s e) (look s x [])) (assigned s x (Some []) (value s e)) (Some nothing))
        choice_shadow by e fits named =
            shadows_like s t (assigned t x (Some []) (value t e)) (assigned t x (Some []) (value t e))
            (by_test (both (compare by) (value s e) (look s x [])) (assigned s x (Some []) (value s e)) (Some nothing))
            (by_test (both (compare by) (value t e) (Some v)) (assigned s x (Some []) (value t e)) (Some nothing)) refl
            (λ i. by_test (both (compare by) (seen i) (holds_v i)) (assigned s x (Some []) (seen i)) (Some nothing)) (at (value t e))
          where
            seen : value s e ≡ value t e
            seen = value_seen V s t looks e named

            at : (m : Option ℕ) → Shadows s t (assigned t x (Some []) m) (by_test (both (compare by) m (Some v)) (assigned s x (Some []) m) (Some nothing))
            at None = tt
            at (Some n) = go (compare by n v) refl
              where
                c : Chooses op by v n
                c = chooses op by v n fits

                go : (q : Bool) → compare by n v ≡ q → Shadows s t (assigned t x (Some []) (Some n)) (by_test (Some q) (assigned s x (Some []) (Some n)) (Some nothing))
                go true k =
                    let new : apply op v n ≡ n = c.taken k in
                    shadows_like s t (assigned t x (Some []) (Some n)) (Some (one_write (Assigned x [] n))) (assigned s x (Some []) (Some n)) (Some (one_write (Assigned x [] (apply op v n)))) (put_t n)
                    (put_s n ∙ ap (λ w. Some (one_write (Assigned x [] w))) (sym new)) (follows_update n)
                go false k = shadows_like s t (assigned t x (Some []) (Some n)) (Some (one_write (Assigned x [] n))) (Some nothing) (Some nothing) (put_t n) refl (follows_kept n c.chosen (c.kept k))

    -- ---- statements

    module _ (full : all ≡ true → (x : Variable) (op : ReduceOp) → operator_of rs x ≡ Some op → TakesAll op) where
      -- what it holds
      held_value : (s : State) (x : Variable) → IsSome (look s x []) → (v : ℕ) × (look s x [] ≡ Some v)
      held_value s x h = at (look s x []) refl h
        where
          at : (o : Option ℕ) → look s x [] ≡ o → IsSome o → (v : ℕ) × (look s x [] ≡ Some v)
          at None e k = absurd (true≢false (sym k))
          at (Some v) e k = (v, e)

      -- a scalar is assigned
      scalar_shadow : (s t : State) (b : Beside s t) (x : Variable) (e : Source) → updates rs (operator_of rs x) x e ≡ true
          → Shadows s t (assigned t x (Some []) (source_value t (operand_of (operator_of rs x) x e))) (assigned s x (Some []) (source_value s e))
      scalar_shadow s t b x e h = at (operator_of rs x) refl h
        where
          at : (o : Option ReduceOp) → operator_of rs x ≡ o → updates rs o x e ≡ true → Shadows s t (assigned t x (Some []) (source_value t (operand_of o x e))) (assigned s x (Some []) (source_value s e))
          at None is k = put_like s t b x (Some []) (Some []) (source_value s e) (source_value t e) (ap is_none is) refl (source_seen V s t (looks s t b) e k)
          at (Some op) is k =
              let found = held_value s x (b.held x op is) in
              update_shadow s t b x op found.0 is found.1 (λ taken. full taken x op is) e k

      changed_shadow : (s t : State) (b : Beside s t) (x : Variable) (by : BinaryOp) (e : Expr) → updates_by rs (operator_of rs x) by e ≡ true
          → Shadows s t (run (operand_by (operator_of rs x) x by e) t) (run (Update x no_exprs by e) s)
      changed_shadow s t b x by e h = at (operator_of rs x) refl h
        where
          at : (o : Option ReduceOp) → operator_of rs x ≡ o → updates_by rs o by e ≡ true → Shadows s t (run (operand_by o x by e) t) (run (Update x no_exprs by e) s)
          at None is k = updated_plain s t b x no_exprs by e (ap is_none is) refl k
          at (Some op) is k =
              let found = held_value s x (b.held x op is) in
              by_shadow s t b x op found.0 is found.1 by e (first_of (combines op by) (names_expr V e) k) (second_of (combines op by) (names_expr V e) k)

      sole_runs : (a : Stmt) (s : State) → run a s ≡ run (sole a) s
      sole_runs (Block (stmt a no_items)) s = ended (run a s) ∙ sole_runs a s
        where
          ended : (o : Option Effect) → then_from s o (run_items no_items) ≡ o
          ended None = refl
          ended (Some e) = λ i. Some (record { writes = append-nil e.writes i; text = append-nil e.text i })
      sole_runs a s = refl

      if_choice : (s t : State) (b : Beside s t) (c : Cond) (a : Stmt) → is_choice rs c a ≡ true → Shadows s t (run (sole a) t) (run (If c a) s)
      if_choice s t b (Compare by e (Object x no_exprs)) a h =
          let front = first_of (is_selected (operator_of rs x) by && assigns x e (sole a)) (names_expr V e) h in
          let named = second_of (is_selected (operator_of rs x) by && assigns x e (sole a)) (names_expr V e) h in
          let is = assigns_is x e (sole a) (second_of (is_selected (operator_of rs x) by) (assigns x e (sole a)) front) in
          shadows_like s t (run (sole a) t) (assigned t x (Some []) (value t e)) (run (If (Compare by e (Object x no_exprs)) a) s)
          (by_test (both (compare by) (value s e) (look s x [])) (assigned s x (Some []) (value s e)) (Some nothing))
          (ap (λ z. run z t) is) (ap (λ o. by_test (both (compare by) (value s e) (look s x [])) o (Some nothing)) (sole_runs a s ∙ ap (λ z. run z s) is))
          (at (operator_of rs x) refl (first_of (is_selected (operator_of rs x) by) (assigns x e (sole a)) front) named)
        where
          at : (o : Option ReduceOp) → operator_of rs x ≡ o → is_selected o by ≡ true → names_expr V e ≡ true
              → Shadows s t (assigned t x (Some []) (value t e)) (by_test (both (compare by) (value s e) (look s x [])) (assigned s x (Some []) (value s e)) (Some nothing))
          at None is k named = absurd (true≢false (sym k))
          at (Some op) is k named =
              let found = held_value s x (b.held x op is) in
              choice_shadow s t b x op found.0 is found.1 by e k named
      if_choice s t b _ a h = absurd (true≢false (sym h))

      turns_shadow : (test : Cond) (step : Increment) (body shadow : Stmt) → names_cond V test ≡ true → names_step V step ≡ true
          → ((s t : State) → Beside s t → Shadows s t (run shadow t) (run body s)) → (n : ℕ) (s t : State) → Beside s t
          → Shadows s t (turns n (λ u. holds u test) (run shadow) (λ u. incremented u step) t) (turns n (λ u. holds u test) (run body) (λ u. incremented u step) s)
      turns_shadow test step body shadow tested stepped goes zero s t b =
          shadows_test s t (holds t test) (holds s test) None (Some nothing) None (Some nothing) (holds_seen V s t (looks s t b) test tested) tt (shadows_nothing s t b)
      turns_shadow test step body shadow tested stepped goes (suc n) s t b =
          let first = turns n (λ u. holds u test) (run shadow) (λ u. incremented u step) in
          let second = turns n (λ u. holds u test) (run body) (λ u. incremented u step) in
          shadows_test s t (holds t test) (holds s test)
          (then_from t (run shadow t) (λ u. then_from u (incremented u step) first)) (Some nothing)
          (then_from s (run body s) (λ u. then_from u (incremented u step) second)) (Some nothing)
          (holds_seen V s t (looks s t b) test tested)
          (shadows_steps s t (run shadow t) (run body s) (λ u. then_from u (incremented u step) first) (λ u. then_from u (incremented u step) second) (goes s t b)
          (λ u v c. shadows_steps u v (incremented v step) (incremented u step) first second (incremented_plain u v c step stepped)
          (λ u' v' d. turns_shadow test step body shadow tested stepped goes n u' v' d)))
          (shadows_nothing s t b)

      mutual
        pub stmt_shadow : (a : Stmt) → reduces rs a ≡ true → (s t : State) → Beside s t → Shadows s t (run (operands rs a) t) (run a s)
        stmt_shadow (Assign x no_exprs e) h s t b = scalar_shadow s t b x e h
        stmt_shadow (Assign x (more_exprs i is) e) h s t b =
            let front = first_of (V x && names_exprs V (more_exprs i is)) (names_source V e) h in
            put_like s t b x (values s (more_exprs i is)) (values t (more_exprs i is)) (source_value s e) (source_value t e) (first_of (V x) (names_exprs V (more_exprs i is)) front)
            (values_seen V s t (looks s t b) (more_exprs i is) (second_of (V x) (names_exprs V (more_exprs i is)) front))
            (source_seen V s t (looks s t b) e (second_of (V x && names_exprs V (more_exprs i is)) (names_source V e) h))
        stmt_shadow (Update x no_exprs by e) h s t b = changed_shadow s t b x by e h
        stmt_shadow (Update x (more_exprs i is) by e) h s t b =
            let front = first_of (V x && names_exprs V (more_exprs i is)) (names_expr V e) h in
            updated_plain s t b x (more_exprs i is) by e (first_of (V x) (names_exprs V (more_exprs i is)) front) (second_of (V x) (names_exprs V (more_exprs i is)) front)
            (second_of (V x && names_exprs V (more_exprs i is)) (names_expr V e) h)
        stmt_shadow (If c a) h s t b = at (is_choice rs c a) refl h (λ k. stmt_shadow a k s t b)
          where
            at : (q : Bool) → is_choice rs c a ≡ q → (q || (names_cond V c && reduces rs a)) ≡ true → (reduces rs a ≡ true → Shadows s t (run (operands rs a) t) (run a s))
                → Shadows s t (run (cond q (sole a) (If c (operands rs a))) t) (run (If c a) s)
            at true is k inner = if_choice s t b c a is
            at false is k inner =
                shadows_test s t (holds t c) (holds s c) (run (operands rs a) t) (Some nothing) (run a s) (Some nothing)
                (holds_seen V s t (looks s t b) c (first_of (names_cond V c) (reduces rs a) k)) (inner (second_of (names_cond V c) (reduces rs a) k)) (shadows_nothing s t b)
        stmt_shadow (IfElse c a d) h s t b =
            let front = first_of (names_cond V c && reduces rs a) (reduces rs d) h in
            shadows_test s t (holds t c) (holds s c) (run (operands rs a) t) (run (operands rs d) t) (run a s) (run d s)
            (holds_seen V s t (looks s t b) c (first_of (names_cond V c) (reduces rs a) front))
            (stmt_shadow a (second_of (names_cond V c) (reduces rs a) front) s t b)
            (stmt_shadow d (second_of (names_cond V c && reduces rs a) (reduces rs d) h) s t b)
        stmt_shadow (For x name start test step body) h s t b =
            let inner = second_of (V x && names_source V start && names_cond V test && names_step V step) (reduces rs body) h in
            let heads = first_of (V x && names_source V start && names_cond V test && names_step V step) (reduces rs body) h in
            let stepped = second_of (V x && names_source V start && names_cond V test) (names_step V step) heads in
            let three = first_of (V x && names_source V start && names_cond V test) (names_step V step) heads in
            let tested = second_of (V x && names_source V start) (names_cond V test) three in
            let two = first_of (V x && names_source V start) (names_cond V test) three in
            shadows_steps s t (declared t x (Some start)) (declared s x (Some start))
            (turns greatest_trip_count (λ u. holds u test) (run (operands rs body)) (λ u. incremented u step))
            (turns greatest_trip_count (λ u. holds u test) (run body) (λ u. incremented u step))
            (declared_start s t b x (Some start) (first_of (V x) (names_source V start) two) (second_of (V x) (names_source V start) two))
            (λ u v c. turns_shadow test step body (operands rs body) tested stepped (λ u' v' d. stmt_shadow body inner u' v' d) greatest_trip_count u v c)
        stmt_shadow (Block items) h s t b = items_shadow items h s t b
        stmt_shadow (Print parts) h s t b = printed s t b parts h

        pub items_shadow : (items : Items) → all_reduce rs items ≡ true → (s t : State) → Beside s t → Shadows s t (run_items (all_operands rs items) t) (run_items items s)
        items_shadow no_items h s t b = shadows_nothing s t b
        items_shadow (mark line rest) h s t b = items_shadow rest h s t b
        items_shadow (local x name start rest) h s t b =
            let front = first_of (V x && names_start V start) (all_reduce rs rest) h in
            shadows_steps s t (declared t x start) (declared s x start) (run_items (all_operands rs rest)) (run_items rest)
            (declared_start s t b x start (first_of (V x) (names_start V start) front) (second_of (V x) (names_start V start) front))
            (λ u v c. items_shadow rest (second_of (V x && names_start V start) (all_reduce rs rest) h) u v c)
        items_shadow (stmt a rest) h s t b =
            shadows_steps s t (run (operands rs a) t) (run a s) (run_items (all_operands rs rest)) (run_items rest) (stmt_shadow a (first_of (reduces rs a) (all_reduce rs rest) h) s t b)
            (λ u v c. items_shadow rest (second_of (reduces rs a) (all_reduce rs rest) h) u v c)
