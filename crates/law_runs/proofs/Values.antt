-- Expressions that read what is known, and stay inside their arrays, have values.
use Rattle.std.specs.Prelude.{ℕ, ℤ, ◌^◌, zero, suc, true, false, not as negated, ◌≡◌, ◌<◌, ◌≤◌, ◌==◌, ◌&&◌, ◌||◌, nat_lt, List, [], ◌∷◌, ◌++◌, length, Option, Some, None, slice_get, option_and_then}
use Rattle.std.specs.Fmt.{decimal}
use Rattle.std.proofs.Common.{refl, sym, inl, inr, ap, ◌∙◌, subst, cond, arith}
use Rattle.std.proofs.lemmas.Bool.{lt-ltb}
use Rattle.std.proofs.lemmas.Int.{ints}
use Rattle.std.proofs.lemmas.Option.{same_Some, slice_get_within}
use Rattle.semantics.specs.Tree.{Variable, BinaryOp, Plus, Minus, Times, Divide, Remainder, BitAnd, BitOr, BitXor, ShiftLeft, ShiftRight, Bare, Ull, Expr, Literal, Constant, Object, Unary, Binary, Conditional, Exprs, no_exprs, more_exprs, Cond, Source, PrintPart, Characters, Decimal, Declaration}
use Rattle.semantics.specs.Source.Token.{Token}
use Rattle.semantics.specs.Source.Scope.{Scope}
use Rattle.semantics.specs.Source.Typing.{typed, constant, not_zero, may_divide, may_shift, fit}
use Rattle.semantics.specs.Source.Expressions.{ReadsExpr, literal, enumerator, object, parens, unary, binary, choose, tighter, ReadsCond, numeric, cond_parens, not, compare, both, either, cond_tighter}
use Rattle.semantics.specs.Source.Statements.{ReadsSource, number, truth, ReadsArguments, argument, Fills}
use Rattle.semantics.specs.Meaning.State.{State, Slot, Outside, Empty, Holds, look_in, is_there, is_object, is_object_in, no_indexes}
use Rattle.semantics.specs.Meaning.Value.{value, values, holds, source_value, map_option, change, operate}
use Rattle.semantics.specs.Meaning.Value as meaning
use Rattle.semantics.specs.Meaning.Runs.{print_text}
use Rattle.semantics.specs.Meaning.Places.{within}
use Rattle.semantics.specs.Meaning.Definite.{DefinitelyAssigned, may_read, may_read_all, may_test, may_take, may_print}
use Rattle.semantics.specs.Theorems.{is_declared}
use Rattle.semantics.proofs.EraseTokenLaw.{first_of, second_of}
use Rattle.affine.specs.declared.interval.Side.{Side}
use Rattle.affine.specs.Affine.{Affine}
use Rattle.affine_expr.specs.Forms.{form_of}
use Rattle.nest.specs.Nests.{ExprHas, CondHas, SourceHas, PartsHave, StaysBelow, AllStay, lengths_of, StaysInside}
use Rattle.law_runs.proofs.Going.{stands, is_held, HoldsKnown, IsUsable}
use Rattle.nest_loop.specs.Constants.{Each, IsSmall}
use Rattle.nest_loop.proofs.Visible.{constant_there}
use Rattle.law_runs.proofs.There.{There, there_mapped, there_both, there_tested, found_there, not_zero_there, shift_there, divides, counts}
use Rattle.nest_loop.specs.Turn.{AtTurn}
use Rattle.nest_loop.proofs.FormValues.{operation_is, form_number}

-- the objects of the declarations are there and no other, and no local has their numbers
pub record IsGood (ds : List Declaration) (s : State) : Type 0 where
  pub cells : (x : Variable) (is : List ℕ) → is_there (s.cells x is) ≡ is_declared (slice_get ds x) is
  pub outside : (x : Variable) → x < length ds → s.locals x ≡ Outside

-- no declaration has this number
beyond : (ds : List Declaration) (x : ℕ) → slice_get ds x ≡ None → length ds ≤ x
beyond [] x e = omega arith
beyond (d ∷ ds) zero e = absurd cc
beyond (d ∷ ds) (suc x) e = let r = beyond ds x e in omega arith

no_index : (js : List ℕ) → within [] js ≡ true → no_indexes js ≡ true
no_index [] e = refl
no_index (j ∷ js) e = e

held_there : (slot : Slot) → is_held slot ≡ true → (v : ℕ) × (slot ≡ Holds v)
held_there Outside e = absurd cc
held_there Empty e = absurd cc
held_there (Holds v) e = (v, refl)

standing_object : (slot : Slot) (s : State) (x : Variable) (js : List ℕ) → stands slot ≡ true → no_indexes js ≡ true → is_object_in slot s x js ≡ true
standing_object Outside s x js e h = absurd cc
standing_object Empty s x js e h = h
standing_object (Holds v) s x js e h = h

-- lengths below 2^64
abbrev pub AreShort : List ℕ → Type 0
AreShort [] = Unit {0}
AreShort (n ∷ ns) = (n < 2 ^ 64) × AreShort ns

-- of all declarations
abbrev pub HaveShort : List Declaration → Type 0
HaveShort [] = Unit {0}
HaveShort (d ∷ ds) = AreShort d.lengths × HaveShort ds

short_lengths : (ds : List Declaration) (x : ℕ) → HaveShort ds → AreShort (lengths_of (slice_get ds x))
short_lengths [] x h = tt
short_lengths (d ∷ ds) zero h = h.0
short_lengths (d ∷ ds) (suc x) h = short_lengths ds x h.1

-- subscripts at a turn
module _ (s : State) (box : List Side) (turn_values : Variable → ℤ) (turn : AtTurn box turn_values s) where
  -- a subscript is below its length
  index_there : (e : Expr) (n : ℕ) (o : Option Affine) → form_of box e ≡ o → n < 2 ^ 64 → StaysBelow box n o → (i : ℕ) × (value s e ≡ Some i) × (nat_lt i n ≡ true)
  index_there e n None is less h = absurd h
  index_there e n (Some f) is less h =
      let range = h turn_values turn.inside in
      let low = range.0 in let high = range.1 in
      let i = form_number box turn_values s turn.counters e f is low (omega (arith, ints)) in
      let same = i.2 in
      (i.0, i.1, lt-ltb i.0 n (omega (arith, ints)))

  -- subscripts that stay below the lengths
  pub subscripts_there : (ls : List ℕ) (is : Exprs) → AreShort ls → AllStay box ls is → (js : List ℕ) × (values s is ≡ Some js) × (within ls js ≡ true)
  subscripts_there [] no_exprs short h = ([], refl, refl)
  subscripts_there (n ∷ ls) no_exprs short h = absurd h
  subscripts_there [] (more_exprs e is) short h = absurd h
  subscripts_there (n ∷ ls) (more_exprs e is) short h =
      let i = index_there e n (form_of box e) refl short.0 h.0 in
      let js = subscripts_there ls is short.1 h.1 in (
        i.0 ∷ js.0,
        ap (λ p. meaning.both (λ k ks. k ∷ ks) p (values s is)) i.1 ∙ ap (λ p. meaning.both (λ k ks. k ∷ ks) (Some i.0) p) js.1,
        ap (λ b. b && within ls js.0) i.2 ∙ js.2,
      )

-- the values that a state gives at a turn
module _ (ds : List Declaration) (short : HaveShort ds) (scope : Scope) (small : Each IsSmall scope) (s : State) (good : IsGood ds s) (box : List Side) (turn_values : Variable → ℤ) (turn : AtTurn box turn_values s) where
  -- an object that is declared
  declared_there : (x : Variable) (d : Declaration) (js : List ℕ) → slice_get ds x ≡ Some d → within d.lengths js ≡ true → is_there (s.cells x js) ≡ true
  declared_there x d js e h = good.cells x js ∙ ap (λ o. is_declared o js) e ∙ h

  file_outside : (x : Variable) (d : Declaration) → slice_get ds x ≡ Some d → s.locals x ≡ Outside
  file_outside x d e = good.outside x (slice_get_within ds x d e)

  -- what is assigned is there
  pub target_there : (x : Variable) (is : Exprs) → IsUsable ds s x → StaysInside ds box x is → (js : List ℕ) × (values s is ≡ Some js) × (is_object s x js ≡ true)
  target_there x is usable h = go (slice_get ds x) refl (short_lengths ds x short) h
    where
      local_object : (u : IsUsable ds s x) (js : List ℕ) → length ds ≤ x → no_indexes js ≡ true → is_object s x js ≡ true
      local_object (inl lt) js le e = absurd (omega arith)
      local_object (inr up) js le e = standing_object (s.locals x) s x js up e

      go : (o : Option Declaration) → slice_get ds x ≡ o → AreShort (lengths_of o) → AllStay box (lengths_of o) is → (js : List ℕ) × (values s is ≡ Some js) × (is_object s x js ≡ true)
      go None e b q = let js = subscripts_there s box turn_values turn [] is b q in (js.0, js.1, local_object usable js.0 (beyond ds x e) (no_index js.0 js.2))
      go (Some d) e b q =
          let js = subscripts_there s box turn_values turn d.lengths is b q in
          (js.0, js.1, ap (λ slot. is_object_in slot s x js.0) (file_outside x d e) ∙ declared_there x d js.0 e js.2)

  -- values of what is known
  module _ (k : DefinitelyAssigned) (known : HoldsKnown ds k s) where
    pub object_there : (x : Variable) (is : Exprs) → k x ≡ true → StaysInside ds box x is → There (value s (Object x is))
    object_there x is have h = go (slice_get ds x) refl (short_lengths ds x short) h
      where
        go : (o : Option Declaration) → slice_get ds x ≡ o → AreShort (lengths_of o) → AllStay box (lengths_of o) is → There (value s (Object x is))
        go None e b q =
            let js = subscripts_there s box turn_values turn [] is b q in
            let held = held_there (s.locals x) (known x (beyond ds x e) have) in (
              held.0,
              ap (λ p. option_and_then (λ ks. look_in (s.locals x) s x ks) p) js.1
                  ∙ ap (λ slot. look_in slot s x js.0) held.1
                  ∙ ap (λ b. cond b (Some held.0) None) (no_index js.0 js.2),
            )
        go (Some d) e b q =
            let js = subscripts_there s box turn_values turn d.lengths is b q in
            let held = found_there (s.cells x js.0) (declared_there x d js.0 e js.2) in (
              held.0,
              ap (λ p. option_and_then (λ ks. look_in (s.locals x) s x ks) p) js.1
                  ∙ ap (λ slot. look_in slot s x js.0) (file_outside x d e)
                  ∙ held.1,
            )

    -- a divisor is not 0, and a shift count is below 64
    divisor_there : {o l : ℕ} {ts : List Token} (b : Expr) → ReadsExpr scope o l ts b → may_divide b ≡ true → (n : ℕ) × (value s b ≡ Some n) × (negated (n == 0) ≡ true)
    divisor_there {o} {l} {ts} b r h = go b r h
      where
        by_constant : (e : Expr) → ReadsExpr scope o l ts e → not_zero (constant e) ≡ true → (n : ℕ) × (value s e ≡ Some n) × (negated (n == 0) ≡ true)
        by_constant e r h = let n = not_zero_there (constant e) h in (n.0, (constant_there s n.0 small r n.1).0, n.2)

        go : (e : Expr) → ReadsExpr scope o l ts e → may_divide e ≡ true → (n : ℕ) × (value s e ≡ Some n) × (negated (n == 0) ≡ true)
        go (Literal m Ull) r h = (m, refl, h)
        go (Literal m Bare) r h = by_constant (Literal m Bare) r h
        go (Constant name m) r h = by_constant (Constant name m) r h
        go (Object x is) r h = by_constant (Object x is) r h
        go (Unary op a) r h = by_constant (Unary op a) r h
        go (Binary op a b) r h = by_constant (Binary op a b) r h
        go (Conditional c a b) r h = by_constant (Conditional c a b) r h

    operated : {o l : ℕ} {ts : List Token} (op : BinaryOp) (a b : Expr) → fit op a b ≡ true → ReadsExpr scope o l ts b → (v w : ℕ) → value s b ≡ Some w → There (operate op v w)
    operated Plus a b f r v w e = (_, refl)
    operated Minus a b f r v w e = (_, refl)
    operated Times a b f r v w e = (_, refl)
    operated BitAnd a b f r v w e = (_, refl)
    operated BitOr a b f r v w e = (_, refl)
    operated BitXor a b f r v w e = (_, refl)
    operated Divide a b f r v w e =
        let n = divisor_there b r (second_of (typed a || typed b) (may_divide b) f) in
        divides w _ (subst (λ m. negated (m == 0) ≡ true) (same_Some n.0 w (sym n.1 ∙ e)) n.2)
    operated Remainder a b f r v w e =
        let n = divisor_there b r (second_of (typed a || typed b) (may_divide b) f) in
        divides w _ (subst (λ m. negated (m == 0) ≡ true) (same_Some n.0 w (sym n.1 ∙ e)) n.2)
    operated ShiftLeft a b f r v w e =
        let n = shift_there (constant b) (second_of (typed a) (may_shift (constant b)) f) in
        counts w _ (subst (λ m. nat_lt m 64 ≡ true) (same_Some n.0 w (sym (constant_there s n.0 small r n.1).0 ∙ e)) n.2)
    operated ShiftRight a b f r v w e =
        let n = shift_there (constant b) (second_of (typed a) (may_shift (constant b)) f) in
        counts w _ (subst (λ m. nat_lt m 64 ≡ true) (same_Some n.0 w (sym (constant_there s n.0 small r n.1).0 ∙ e)) n.2)

    mutual
      -- an expression has a value
      pub expr_there : {o l : ℕ} {ts : List Token} {e : Expr} → ReadsExpr scope o l ts e → may_read k e ≡ true → ExprHas (StaysInside ds) box e → There (value s e)
      expr_there (literal {n = n} r) m h = (n, refl)
      expr_there (enumerator {n = n} f) m h = (n, refl)
      expr_there (object {x = x} {is = is} f r) m h = object_there x is (first_of (k x) (may_read_all k is) m) h
      expr_there (parens b r) m h = expr_there r m h
      expr_there (unary {e = a} {op = op} b u t r) m h = there_mapped (change op) (value s a) (expr_there r m h)
      expr_there (binary {a = a} {b = b} {op = op} sign f r q) m h =
          let v = expr_there r (first_of (may_read k a) (may_read k b) m) h.0 in
          let w = expr_there q (second_of (may_read k a) (may_read k b) m) h.1 in
          let u = operated op a b f q v.0 w.0 w.1 in
          (u.0, operation_is op (value s a) (value s b) v.0 w.0 u.0 v.1 w.1 u.1)
      expr_there (choose {c = c} {a = a} {b = b} less t r q) m h =
          let m' = first_of (may_test k c && may_read k a) (may_read k b) m in
          there_tested (holds s c) (value s a) (value s b)
          (cond_there t (first_of (may_test k c) (may_read k a) m') h.0)
          (expr_there r (second_of (may_test k c) (may_read k a) m') h.1)
          (expr_there q (second_of (may_test k c && may_read k a) (may_read k b) m) h.2)
      expr_there (tighter r) m h = expr_there r m h

      -- a condition holds or not
      pub cond_there : {o l : ℕ} {ts : List Token} {c : Cond} → ReadsCond scope o l ts c → may_test k c ≡ true → CondHas (StaysInside ds) box c → There (holds s c)
      cond_there (numeric {e = e} r) m h = there_mapped (λ v. negated (v == 0)) (value s e) (expr_there r m h)
      cond_there (cond_parens b r) m h = cond_there r m h
      cond_there (not {c = c} b r) m h = there_mapped negated (holds s c) (cond_there r m h)
      cond_there (compare {a = a} {b = b} {op = op} sign f r q) m h =
          there_both (meaning.compare op) (value s a) (value s b)
          (expr_there r (first_of (may_read k a) (may_read k b) m) h.0)
          (expr_there q (second_of (may_read k a) (may_read k b) m) h.1)
      cond_there (both {c = c} {d = d} r q) m h =
          there_tested (holds s c) (holds s d) (Some false)
          (cond_there r (first_of (may_test k c) (may_test k d) m) h.0)
          (cond_there q (second_of (may_test k c) (may_test k d) m) h.1)
          (false, refl)
      cond_there (either {c = c} {d = d} r q) m h =
          there_tested (holds s c) (Some true) (holds s d)
          (cond_there r (first_of (may_test k c) (may_test k d) m) h.0)
          (true, refl)
          (cond_there q (second_of (may_test k c) (may_test k d) m) h.1)
      cond_there (cond_tighter r) m h = cond_there r m h

    -- a right side has one
    pub source_there : {o : ℕ} {ts : List Token} {e : Source} → ReadsSource scope o ts e → may_take k e ≡ true → SourceHas (StaysInside ds) box e → There (source_value s e)
    source_there (number r) m h = expr_there r m h
    source_there (truth {c = c} t r) m h = there_mapped (λ b. cond b 1 0) (holds s c) (cond_there r m h)

    -- and printf's arguments
    pub print_there : {o : ℕ} {ts : List Token} (spots : List (Option (List ℕ))) (es : List Expr) (parts : List PrintPart) → ReadsArguments scope o ts es → Fills spots es parts
        → may_print k parts ≡ true → PartsHave (StaysInside ds) box parts → There (print_text s parts)
    print_there [] [] [] r f m h = ([], refl)
    print_there (Some bs ∷ spots) es (Characters cs ∷ parts) r f m h =
        there_both (λ a b. a ++ b) (Some cs) (print_text s parts) (cs, refl) (print_there spots es parts r f.1 m h)
    print_there (None ∷ spots) (e ∷ es) (Decimal d ∷ parts) (argument t p r q) f m h =
        there_both (λ a b. a ++ b) (map_option decimal (value s d)) (print_text s parts)
        (there_mapped decimal (value s d) (subst (λ d. may_read k d ≡ true → ExprHas (StaysInside ds) box d → There (value s d)) f.0 (expr_there r) (first_of (may_read k d) (may_print k parts) m) h.0))
        (print_there spots es parts q f.1 (second_of (may_read k d) (may_print k parts) m) h.1)
    print_there _ _ _ r f m h = absurd f
