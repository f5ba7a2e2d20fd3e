-- Forms in the variables of a box have one value wherever these have the same values, and so do the runs of loops between such forms.
use Rattle.std.specs.Prelude.{Bool, true, false, ◌≡◌, ◌+ℤ◌, ◌*ℤ◌, ℤ, pos, negsuc, Some, List}
use Rattle.std.proofs.Common.{refl, sym, ap, ◌∙◌, subst, arith}
use Rattle.std.proofs.lemmas.Int.{ints}
use Rattle.std.proofs.lemmas.Option.{none-some, cond_some}
use Rattle.semantics.specs.Tree.{Variable, Negate, Complement, BinaryOp, Plus, Minus, Times, Divide, Remainder, BitAnd, BitOr, BitXor, ShiftLeft, ShiftRight, Expr, Literal, Constant, Object, Unary, Binary, Conditional, Exprs, no_exprs, more_exprs, Source, Cond, Increment}
use Rattle.affine.specs.declared.interval.Side.{Side}
use Rattle.affine.specs.Affine.{Affine, term_sum, value}
use Rattle.affine.specs.Arithmetic.{constant_form, variable_form, plus_multiple, sum_form, multiple_form}
use Rattle.affine.proofs.Values.{value-plus_multiple, value-sum_form, value-multiple_form}
use Rattle.affine_expr.specs.Forms.{is_counter, kept, is_number, product, variable_form_in, operated, form_of}
use Rattle.nest_loop.specs.declared.head.Canonical.{Canonical}
use Rattle.nest_loop.specs.Sides.{IsModest, Room, IsCount, end_shift, end_of}
use Rattle.nest_loop.specs.Canonical.{canonical}
use Rattle.nest_loop.proofs.Numbers.{chained, joined, kept_is}
use Rattle.nest_loop.proofs.Heads.{head_of}
use Rattle.nest_space.specs.Space.{Turns}
use Rattle.nest_space.specs.Nests.{IsRunOf}

module _ (a b : Variable → ℤ) where
  -- a form that is kept
  kept_agrees : (f g : Affine) → kept f ≡ Some g → value f a ≡ value f b → value g a ≡ value g b
  kept_agrees f g e h = subst (λ (u : Affine). value u a ≡ value u b) (kept_is f g e).same h

  multiple_agrees : (f : Affine) (n : ℤ) → value f a ≡ value f b → value (multiple_form f n) a ≡ value (multiple_form f n) b
  multiple_agrees f n h = value-multiple_form f n a ∙ ap (λ (z : ℤ). z *ℤ n) h ∙ sym (value-multiple_form f n b)

  product_agrees : (p q : Bool) (f g h : Affine) → product p q f g ≡ Some h → value f a ≡ value f b → value g a ≡ value g b → value h a ≡ value h b
  product_agrees true q f g h e r t = kept_agrees (multiple_form g f.constant) h e (multiple_agrees g f.constant t)
  product_agrees false true f g h e r t = kept_agrees (multiple_form f g.constant) h e (multiple_agrees f g.constant r)
  product_agrees false false f g h e r t = absurd (none-some h e)

  operated_agrees : (op : BinaryOp) (p q : Bool) (f g h : Affine) → operated op p q f g ≡ Some h → value f a ≡ value f b → value g a ≡ value g b → value h a ≡ value h b
  operated_agrees Plus p q f g h e r t =
      kept_agrees (sum_form f g) h e (value-sum_form f g a ∙ ap (λ (z : ℤ). z +ℤ value g a) r ∙ ap (λ (z : ℤ). value f b +ℤ z) t ∙ sym (value-sum_form f g b))
  operated_agrees Minus p q f g h e r t =
      kept_agrees (plus_multiple f (negsuc 0) g) h e
      (value-plus_multiple f (negsuc 0) g a ∙ ap (λ (z : ℤ). z +ℤ negsuc 0 *ℤ value g a) r ∙ ap (λ (z : ℤ). value f b +ℤ negsuc 0 *ℤ z) t ∙ sym (value-plus_multiple f (negsuc 0) g b))
  operated_agrees Times p q f g h e r t = product_agrees p q f g h e r t
  operated_agrees Divide p q f g h e r t = absurd (none-some h e)
  operated_agrees Remainder p q f g h e r t = absurd (none-some h e)
  operated_agrees BitAnd p q f g h e r t = absurd (none-some h e)
  operated_agrees BitOr p q f g h e r t = absurd (none-some h e)
  operated_agrees BitXor p q f g h e r t = absurd (none-some h e)
  operated_agrees ShiftLeft p q f g h e r t = absurd (none-some h e)
  operated_agrees ShiftRight p q f g h e r t = absurd (none-some h e)

  module _ (box : List Side) (same : (x : Variable) → is_counter box x ≡ true → a x ≡ b x) where
    variable_agrees : (x : Variable) (is : Exprs) (f : Affine) → variable_form_in box x is ≡ Some f → value f a ≡ value f b
    variable_agrees x no_exprs f e =
        let parts = cond_some (is_counter box x) (variable_form x) f e in
        let own = same x parts.0 in
        let alone : value (variable_form x) a ≡ value (variable_form x) b = omega (arith, ints, own) in
        subst (λ (u : Affine). value u a ≡ value u b) parts.1 alone
    variable_agrees x (more_exprs i is) f e = absurd (none-some f e)

    form_agrees : (e : Expr) (f : Affine) → form_of box e ≡ Some f → value f a ≡ value f b
    form_agrees (Literal n suffix) f e = kept_agrees (constant_form (pos n)) f e refl
    form_agrees (Constant name n) f e = kept_agrees (constant_form (pos n)) f e refl
    form_agrees (Object x is) f e = variable_agrees x is f e
    form_agrees (Unary Negate c) f e =
        let p = chained (λ g. kept (multiple_form g (negsuc 0))) (form_of box c) f e in
        kept_agrees (multiple_form p.0 (negsuc 0)) f p.2 (multiple_agrees p.0 (negsuc 0) (form_agrees c p.0 p.1))
    form_agrees (Unary Complement c) f e = absurd (none-some f e)
    form_agrees (Binary op c d) f e =
        let j = joined (operated op (is_number c) (is_number d)) (form_of box c) (form_of box d) f e in
        operated_agrees op (is_number c) (is_number d) j.left j.right f j.result (form_agrees c j.left j.first) (form_agrees d j.right j.second)
    form_agrees (Conditional c d g) f e = absurd (none-some f e)

    -- a run of a loop of the text
    pub run_agrees : (x : Variable) (start : Source) (test : Cond) (step : Increment) (l : Canonical) (t : Turns) → canonical box x start test step ≡ Some l → IsRunOf l a t → IsRunOf l b t
    run_agrees x start test step l t is run =
        let head = head_of box x start test step l is in
        let p = form_agrees head.from l.start head.first in
        let q = form_agrees head.to l.limit head.last in
        let e = shifted l.limit.constant (end_shift l.stride.direction l.bound) (term_sum l.limit.terms a) (term_sum l.limit.terms b) q in
        record {
          stays = record {
            start = subst IsModest p run.stays.start;
            limit = subst IsModest q run.stays.limit;
            room = subst (λ z. Room l.stride.direction l.bound l.stride.by z (value l.limit b)) p (subst (λ z. Room l.stride.direction l.bound l.stride.by (value l.start a) z) q run.stays.room);
          };
          least = run.least;
          stride = run.stride;
          first = sym p ∙ run.first;
          count = subst (λ z. IsCount l.stride z (value (end_of l) b) t.count) p (subst (λ z. IsCount l.stride (value l.start a) z t.count) e run.count);
        }
      where
        shifted : (c d s t : ℤ) → c +ℤ s ≡ c +ℤ t → (c +ℤ d) +ℤ s ≡ (c +ℤ d) +ℤ t
        shifted c d s t h = omega (arith, ints)
