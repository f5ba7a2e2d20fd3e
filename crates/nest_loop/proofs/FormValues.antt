-- Forms tell values: an expression has the residue of its form's value.
use Rattle.std.specs.Prelude.{ℕ, Bool, true, false, ◌≡◌, ◌+◌, ◌-◌, ◌*◌, ◌%◌, ◌^◌, ◌*ℤ◌, ◌+ℤ◌, ◌≤ℤ◌, ◌<ℤ◌, ℤ, pos, negsuc, List, [], Option, Some}
use Rattle.std.proofs.Common.{refl, sym, ap, ◌∙◌, subst, arith}
use Rattle.std.proofs.lemmas.Int.{ints}
use Rattle.std.proofs.lemmas.Option.{none-some, cond_some}
use Rattle.std.proofs.Math.IntN.{*ℤ_comm}
use Rattle.semantics.specs.Tree.{Variable, Negate, Complement, BinaryOp, Plus, Minus, Times, Divide, Remainder, BitAnd, BitOr, BitXor, ShiftLeft, ShiftRight, Expr, Literal, Constant, Object, Unary, Binary, Conditional, Exprs, no_exprs, more_exprs}
use Rattle.semantics.specs.Meaning.State.{State, look_in}
use Rattle.semantics.specs.Meaning.Value.{both_then, map_option, change, operate}
use Rattle.semantics.specs.Meaning.Value as meaning
use Rattle.affine.specs.declared.interval.Side.{Side}
use Rattle.affine.specs.Affine.{Affine, value}
use Rattle.affine.specs.Arithmetic.{constant_form, variable_form, plus_multiple, sum_form, multiple_form}
use Rattle.affine.proofs.Values.{value-plus_multiple, value-sum_form, value-multiple_form}
use Rattle.affine_expr.specs.Forms.{is_counter, kept, is_number, product, variable_form_in, operated, form_of}
use Rattle.nest_loop.proofs.Residues.{IsResidue, residue_of, residue_sum, residue_less, residue_negated, residue_product, residue_is}
use Rattle.nest_loop.proofs.Numbers.{chained, joined, kept_is, number_value, number_terms}
use Rattle.nest_loop.specs.Turn.{HoldCounters}

-- something that is there, and is the residue of a whole number
pub record IsWorth (z : ℤ) (o : Option ℕ) : Type 0 where
  pub number : ℕ
  pub is : o ≡ Some number
  pub residue : IsResidue number z

-- an operation on two values
pub operation_is : (op : BinaryOp) (o p : Option ℕ) (m n r : ℕ) → o ≡ Some m → p ≡ Some n → operate op m n ≡ Some r → both_then (operate op) o p ≡ Some r
operation_is op o p m n r e f g = ap (λ q. both_then (operate op) q p) e ∙ ap (λ q. both_then (operate op) (Some m) q) f ∙ g

module _ (values : Variable → ℤ) where
  worth_kept : (f g : Affine) (o : Option ℕ) → kept f ≡ Some g → IsWorth (value f values) o → IsWorth (value g values) o
  worth_kept f g o e w = subst (λ (h : Affine). IsWorth (value h values) o) (kept_is f g e).same w

  constant_worth : (n : ℕ) (f : Affine) → kept (constant_form (pos n)) ≡ Some f → IsWorth (value f values) (Some n)
  constant_worth n f e =
      let small = (kept_is (constant_form (pos n)) f e).small in
      let alone : pos n ≡ pos n +ℤ pos 0 = omega (arith, ints) in
      worth_kept (constant_form (pos n)) f (Some n) e (record { number = n; is = refl; residue = subst (IsResidue n) alone (residue_of n (omega arith)) })

  -- a product with a number
  product_value : (p q : Bool) (f g h : Affine) → (p ≡ true → f.terms ≡ []) → (q ≡ true → g.terms ≡ []) → product p q f g ≡ Some h → value f values *ℤ value g values ≡ value h values
  product_value true q f g h a b e =
      ap (λ (m : ℤ). m *ℤ value g values) (number_value f values (a refl)) ∙ *ℤ_comm f.constant (value g values)
      ∙ sym (value-multiple_form g f.constant values) ∙ ap (λ (u : Affine). value u values) (kept_is (multiple_form g f.constant) h e).same
  product_value false true f g h a b e =
      ap (λ (m : ℤ). value f values *ℤ m) (number_value g values (b refl))
      ∙ sym (value-multiple_form f g.constant values) ∙ ap (λ (u : Affine). value u values) (kept_is (multiple_form f g.constant) h e).same
  product_value false false f g h a b e = absurd (none-some h e)

  -- an operation on residues
  operated_worth : (op : BinaryOp) (p q : Bool) (f g h : Affine) (m n : ℕ) → (p ≡ true → f.terms ≡ []) → (q ≡ true → g.terms ≡ []) → operated op p q f g ≡ Some h
      → IsResidue m (value f values) → IsResidue n (value g values) → IsWorth (value h values) (operate op m n)
  operated_worth Plus p q f g h m n a b e r t =
      worth_kept (sum_form f g) h (operate Plus m n) e
      (record { number = (m + n) % 2 ^ 64; is = refl; residue = subst (IsResidue ((m + n) % 2 ^ 64)) (sym (value-sum_form f g values)) (residue_sum m n (value f values) (value g values) r t) })
  operated_worth Minus p q f g h m n a b e r t =
      worth_kept (plus_multiple f (negsuc 0) g) h (operate Minus m n) e
      (record { number = (m + 2 ^ 64 - n) % 2 ^ 64; is = refl; residue = subst (IsResidue ((m + 2 ^ 64 - n) % 2 ^ 64)) (sym (value-plus_multiple f (negsuc 0) g values)) (residue_less m n (value f values) (value g values) r t) })
  operated_worth Times p q f g h m n a b e r t =
      record { number = (m * n) % 2 ^ 64; is = refl; residue = subst (IsResidue ((m * n) % 2 ^ 64)) (product_value p q f g h a b e) (residue_product m n (value f values) (value g values) r t) }
  operated_worth Divide p q f g h m n a b e r t = absurd (none-some h e)
  operated_worth Remainder p q f g h m n a b e r t = absurd (none-some h e)
  operated_worth BitAnd p q f g h m n a b e r t = absurd (none-some h e)
  operated_worth BitOr p q f g h m n a b e r t = absurd (none-some h e)
  operated_worth BitXor p q f g h m n a b e r t = absurd (none-some h e)
  operated_worth ShiftLeft p q f g h m n a b e r t = absurd (none-some h e)
  operated_worth ShiftRight p q f g h m n a b e r t = absurd (none-some h e)

module _ (box : List Side) (values : Variable → ℤ) (s : State) (counters : HoldCounters box values s) where
  counter_worth : (x : Variable) (is : Exprs) (f : Affine) → variable_form_in box x is ≡ Some f → IsWorth (value f values) (meaning.value s (Object x is))
  counter_worth x no_exprs f e =
      let parts = cond_some (is_counter box x) (variable_form x) f e in
      let held = counters x parts.0 in
      let once : values x ≡ value (variable_form x) values = omega (arith, ints) in
      let number : pos held.number ≡ value f values = sym held.is ∙ once ∙ ap (λ (g : Affine). value g values) parts.1 in
      record { number = held.number; is = ap (λ slot. look_in slot s x []) held.held; residue = subst (IsResidue held.number) number (residue_of held.number held.below) }
  counter_worth x (more_exprs i is) f e = absurd (none-some f e)

  -- an expression has the residue of its form's value
  pub form_worth : (e : Expr) (f : Affine) → form_of box e ≡ Some f → IsWorth (value f values) (meaning.value s e)
  form_worth (Literal n suffix) f e = constant_worth values n f e
  form_worth (Constant name n) f e = constant_worth values n f e
  form_worth (Object x is) f e = counter_worth x is f e
  form_worth (Unary Negate a) f e =
      let c = chained (λ g. kept (multiple_form g (negsuc 0))) (form_of box a) f e in
      let w = form_worth a c.0 c.1 in
      worth_kept values (multiple_form c.0 (negsuc 0)) f (map_option (change Negate) (meaning.value s a)) c.2
      (record {
        number = (2 ^ 64 - w.number) % 2 ^ 64;
        is = ap (map_option (change Negate)) w.is;
        residue = subst (IsResidue ((2 ^ 64 - w.number) % 2 ^ 64)) (sym (value-multiple_form c.0 (negsuc 0) values)) (residue_negated w.number (value c.0 values) w.residue);
      })
  form_worth (Unary Complement a) f e = absurd (none-some f e)
  form_worth (Binary op a b) f e =
      let j = joined (operated op (is_number a) (is_number b)) (form_of box a) (form_of box b) f e in
      let v = form_worth a j.left j.first in
      let w = form_worth b j.right j.second in
      let u = operated_worth values op (is_number a) (is_number b) j.left j.right f v.number w.number (number_terms box a j.left j.first) (number_terms box b j.right j.second) j.result v.residue w.residue in
      record {
        number = u.number;
        is = operation_is op (meaning.value s a) (meaning.value s b) v.number w.number u.number v.is w.is u.is;
        residue = u.residue;
      }
  form_worth (Conditional c a b) f e = absurd (none-some f e)

  -- where the form's value is a number of 0..2^64 - 1, that is the expression's
  pub form_number : (e : Expr) (f : Affine) → form_of box e ≡ Some f → pos 0 ≤ℤ value f values → value f values <ℤ pos (2 ^ 64)
      → (n : ℕ) × (meaning.value s e ≡ Some n) × (value f values ≡ pos n)
  form_number e f h low high = let w = form_worth e f h in (w.number, w.is, residue_is w.number (value f values) w.residue low high)
