-- What the step of a canonical loop assigns.
use Rattle.std.specs.Prelude.{ℕ, Bool, true, false, ◌≡◌, ◌==◌, ◌+◌, ◌%◌, ◌≤◌, ◌<◌, ◌^◌, nat_le, List, [], Option, Some, None}
use Rattle.std.proofs.Common.{refl, ap, ◌∙◌, subst, cond, arith}
use Rattle.std.proofs.lemmas.Bool.{leb-true, eqb-true}
use Rattle.std.proofs.lemmas.Option.{none-some, same_Some, cond_some}
use Rattle.semantics.specs.Tree.{Variable, BinaryOp, Plus, Minus, Times, Divide, Remainder, BitAnd, BitOr, BitXor, ShiftLeft, ShiftRight, Expr, Object, Binary, no_exprs, Increment, Up, Down}
use Rattle.semantics.specs.Source.Token.{Token}
use Rattle.semantics.specs.Source.Typing.{constant}
use Rattle.semantics.specs.Source.Scope.{Scope}
use Rattle.semantics.specs.Source.Expressions.{ReadsExpr, literal, enumerator, object, parens, unary, binary, choose, tighter}
use Rattle.semantics.specs.Source.Statements.{number, truth, ReadsIncrement, up_before, up_behind, down_before, down_behind, set, change}
use Rattle.semantics.specs.Meaning.State.{State, Holds, look_in}
use Rattle.semantics.specs.Meaning.Value.{value, both_then, operate}
use Rattle.semantics.specs.Meaning.Runs.{assigned, incremented}
use Rattle.nest_loop.specs.declared.stride.Direction.{Direction}
use Rattle.nest_loop.specs.declared.stride.Direction.TheVariants.{Rising, Falling}
use Rattle.nest_loop.specs.declared.stride.Stride.{Stride}
use Rattle.nest_loop.specs.Canonical.{is_variable, stride_by, stride_in, stride_op, stride_of}
use Rattle.nest_loop.specs.Constants.{Each, IsSmall}
use Rattle.nest_loop.proofs.Visible.{constant_there}
use Rattle.nest_loop.proofs.Heads.{guarded, variable_is}
use Rattle.nest_loop.proofs.Ways.{stepped}

-- what is assigned is the value behind a step, of at least 1 and below 2^31
pub record IsStep (v : ℕ) (st : Stride) (o : Option ℕ) : Type 0 where
  pub is : o ≡ Some (stepped st.direction st.by v)
  pub least : 1 ≤ st.by
  pub short : st.by < 2 ^ 31

-- by a constant
step_by : (v : ℕ) (d : Direction) (c : Option ℕ) (st : Stride) (o : Option ℕ) → stride_by d c ≡ Some st → ((n : ℕ) → c ≡ Some n → (o ≡ Some (stepped d n v)) × (n < 2 ^ 31)) → IsStep v st o
step_by v d None st o e h = absurd (none-some st e)
step_by v d (Some n) st o e h =
    let parts = cond_some (nat_le 1 n) (record { direction = d; by = n }) st e in
    let facts = h n refl in
    subst (λ (st : Stride). IsStep v st o) parts.1 (record { is = facts.0; least = leb-true 1 n parts.0; short = facts.1 })

module _ (scope : Scope) (small : Each IsSmall scope) (s : State) (x : Variable) (v : ℕ) (held : s.locals x ≡ Holds v) where
  variable_value : value s (Object x no_exprs) ≡ Some v
  variable_value = ap (λ slot. look_in slot s x []) held

  -- the variable itself
  at_variable : (e : Expr) → is_variable x e ≡ true → value s e ≡ Some v
  at_variable e h = ap (value s) (variable_is x e h) ∙ variable_value

  operated_with : (op : BinaryOp) (o p : Option ℕ) (n : ℕ) → o ≡ Some v → p ≡ Some n → both_then (operate op) o p ≡ operate op v n
  operated_with op o p n e f = ap (λ q. both_then (operate op) q p) e ∙ ap (λ q. both_then (operate op) (Some v) q) f

  -- the right side `v + s`, `s + v` or `v - s`
  right_side : {o l : ℕ} {ts : List Token} {e : Expr} (st : Stride) → ReadsExpr scope o l ts e → stride_in x e ≡ Some st → IsStep v st (value s e)
  right_side st (literal r) h = absurd (none-some st h)
  right_side st (enumerator f) h = absurd (none-some st h)
  right_side st (object f r) h = absurd (none-some st h)
  right_side st (parens b r) h = right_side st r h
  right_side st (unary b u t r) h = absurd (none-some st h)
  right_side st (choose b c r q) h = absurd (none-some st h)
  right_side st (tighter r) h = right_side st r h
  right_side st (binary {a = a} {b = b} {op = Plus} sign f r q) h = go (is_variable x a) refl h
    where
      behind : is_variable x a ≡ true → stride_by Rising (constant b) ≡ Some st → IsStep v st (value s (Binary Plus a b))
      behind var e = step_by v Rising (constant b) st (value s (Binary Plus a b)) e (λ n c. let w = constant_there s n small q c in (operated_with Plus (value s a) (value s b) n (at_variable a var) w.0, w.1))

      turned : (n : ℕ) → value s a ≡ Some n → value s b ≡ Some v → value s (Binary Plus a b) ≡ Some ((v + n) % 2 ^ 64)
      turned n e f =
          let sum : n + v ≡ v + n = omega arith in
          ap (λ q. both_then (operate Plus) q (value s b)) e ∙ ap (λ q. both_then (operate Plus) (Some n) q) f ∙ ap (λ m. Some (m % 2 ^ 64)) sum

      before : is_variable x b ≡ true → stride_by Rising (constant a) ≡ Some st → IsStep v st (value s (Binary Plus a b))
      before var e = step_by v Rising (constant a) st (value s (Binary Plus a b)) e (λ n c. let w = constant_there s n small r c in (turned n w.0 (at_variable b var), w.1))

      go : (t : Bool) → is_variable x a ≡ t → cond t (stride_by Rising (constant b)) (cond (is_variable x b) (stride_by Rising (constant a)) None) ≡ Some st → IsStep v st (value s (Binary Plus a b))
      go true var e = behind var e
      go false var e = let t = guarded (is_variable x b) (stride_by Rising (constant a)) st e in before t.0 t.1
  right_side st (binary {a = a} {b = b} {op = Minus} sign f r q) h =
      let t = guarded (is_variable x a) (stride_by Falling (constant b)) st h in
      step_by v Falling (constant b) st (value s (Binary Minus a b)) t.1 (λ n c. let w = constant_there s n small q c in (operated_with Minus (value s a) (value s b) n (at_variable a t.0) w.0, w.1))
  right_side st (binary {op = Times} sign f r q) h = absurd (none-some st h)
  right_side st (binary {op = Divide} sign f r q) h = absurd (none-some st h)
  right_side st (binary {op = Remainder} sign f r q) h = absurd (none-some st h)
  right_side st (binary {op = BitAnd} sign f r q) h = absurd (none-some st h)
  right_side st (binary {op = BitOr} sign f r q) h = absurd (none-some st h)
  right_side st (binary {op = BitXor} sign f r q) h = absurd (none-some st h)
  right_side st (binary {op = ShiftLeft} sign f r q) h = absurd (none-some st h)
  right_side st (binary {op = ShiftRight} sign f r q) h = absurd (none-some st h)

  -- `v += s` and `v -= s`
  changed : {o l : ℕ} {ts : List Token} {e : Expr} (op : BinaryOp) (st : Stride) → ReadsExpr scope o l ts e → stride_op op (constant e) ≡ Some st
      → IsStep v st (both_then (operate op) (value s (Object x no_exprs)) (value s e))
  changed {e = e} Plus st r h =
      step_by v Rising (constant e) st (both_then (operate Plus) (value s (Object x no_exprs)) (value s e)) h
      (λ n c. let w = constant_there s n small r c in (operated_with Plus (value s (Object x no_exprs)) (value s e) n variable_value w.0, w.1))
  changed {e = e} Minus st r h =
      step_by v Falling (constant e) st (both_then (operate Minus) (value s (Object x no_exprs)) (value s e)) h
      (λ n c. let w = constant_there s n small r c in (operated_with Minus (value s (Object x no_exprs)) (value s e) n variable_value w.0, w.1))
  changed Times st r h = absurd (none-some st h)
  changed Divide st r h = absurd (none-some st h)
  changed Remainder st r h = absurd (none-some st h)
  changed BitAnd st r h = absurd (none-some st h)
  changed BitOr st r h = absurd (none-some st h)
  changed BitXor st r h = absurd (none-some st h)
  changed ShiftLeft st r h = absurd (none-some st h)
  changed ShiftRight st r h = absurd (none-some st h)

  -- a step assigns the loop's variable its next value
  pub record StepsTo (step : Increment) (st : Stride) : Type 0 where
    pub number : Option ℕ
    pub assigns : incremented s step ≡ assigned s x (Some []) number
    pub next : IsStep v st number

  -- `++v` and `--v`
  goes_by : (d : Direction) (step : Variable → Increment) (st : Stride) (y : Variable) (o : Option ℕ) → incremented s (step x) ≡ assigned s x (Some []) o → o ≡ Some (stepped d 1 v)
      → cond (y == x) (stride_by d (Some 1)) None ≡ Some st → StepsTo (step y) st
  goes_by d step st y o is e h =
      let t = guarded (y == x) (stride_by d (Some 1)) st h in
      record {
        number = o;
        assigns = ap (λ z. incremented s (step z)) (eqb-true y x t.0) ∙ is;
        next = step_by v d (Some 1) st o t.1 (λ n c. (e ∙ ap (λ m. Some (stepped d m v)) (same_Some 1 n c), (let one = same_Some 1 n c in omega arith)));
      }

  -- each step of a canonical loop
  pub steps_to : {o : ℕ} {ts : List Token} {step : Increment} (st : Stride) → ReadsIncrement scope o ts step → stride_of x step ≡ Some st → StepsTo step st
  steps_to st (up_before {x = y} f) h = goes_by Rising Up st y (both_then (operate Plus) (value s (Object x no_exprs)) (Some 1)) refl (operated_with Plus (value s (Object x no_exprs)) (Some 1) 1 variable_value refl) h
  steps_to st (up_behind {x = y} f) h = goes_by Rising Up st y (both_then (operate Plus) (value s (Object x no_exprs)) (Some 1)) refl (operated_with Plus (value s (Object x no_exprs)) (Some 1) 1 variable_value refl) h
  steps_to st (down_before {x = y} f) h = goes_by Falling Down st y (both_then (operate Minus) (value s (Object x no_exprs)) (Some 1)) refl (operated_with Minus (value s (Object x no_exprs)) (Some 1) 1 variable_value refl) h
  steps_to st (down_behind {x = y} f) h = goes_by Falling Down st y (both_then (operate Minus) (value s (Object x no_exprs)) (Some 1)) refl (operated_with Minus (value s (Object x no_exprs)) (Some 1) 1 variable_value refl) h
  steps_to st (set {x = y} f (number {e = e} r)) h =
      let t = guarded (y == x) (stride_in x e) st h in
      record { number = value s e; assigns = ap (λ z. assigned s z (Some []) (value s e)) (eqb-true y x t.0); next = right_side st r t.1 }
  steps_to st (set {x = y} f (truth {c = c} is r)) h = absurd (none-some st (guarded (y == x) None st h).1)
  steps_to st (change {x = y} {e = e} {op = op} f u r) h =
      let t = guarded (y == x) (stride_op op (constant e)) st h in
      record {
        number = both_then (operate op) (value s (Object x no_exprs)) (value s e);
        assigns = ap (λ z. assigned s z (Some []) (both_then (operate op) (value s (Object z no_exprs)) (value s e))) (eqb-true y x t.0);
        next = changed op st r t.1;
      }
