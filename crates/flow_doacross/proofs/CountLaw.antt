-- Loops between two numbers, wherever they stand.
use Rattle.std.specs.Prelude.{Bool, true, false, ◌≡◌, ◌==◌, ◌&&◌, if◌then◌else◌, ℤ, pos, negsuc, List, [], length, Option, Some, None, option_and_then, option_map, nat_le}
use Rattle.std.proofs.Common.{refl, sym, ap, ◌∙◌}
use Rattle.std.proofs.lemmas.Bool.{eqb-true}
use Rattle.std.proofs.lemmas.Option.{same_Some, none-some}
use Rattle.semantics.specs.Tree.{Variable, Negate, Complement, BinaryOp, Plus, Minus, Times, Divide, Remainder, BitAnd, BitOr, BitXor, ShiftLeft, ShiftRight, Expr, Literal, Constant, Object, Unary, Binary, Conditional, no_exprs, more_exprs, Cond, NotZero, Compare, Not, LogicalAnd, LogicalOr, Source, Number, Truth}
use Rattle.semantics.specs.Meaning.Value.{both_then}
use Rattle.affine.specs.declared.interval.Side.{Side}
use Rattle.affine.specs.declared.term.Term.{Term}
use Rattle.affine.specs.Affine.{Affine}
use Rattle.affine.specs.Arithmetic.{constant_form, multiple_form, plus_multiple, with_multiple}
use Rattle.affine_expr.specs.Forms.{is_small, are_small, kept, is_number, product, operated, form_of}
use Rattle.nest_loop.specs.declared.stride.Direction.{Direction}
use Rattle.nest_loop.specs.declared.stride.Direction.TheVariants.{Rising, Falling}
use Rattle.nest_loop.specs.declared.stride.Stride.{Stride}
use Rattle.nest_loop.specs.declared.stride.Bound.{Bound}
use Rattle.nest_loop.specs.declared.head.Canonical.{Canonical}
use Rattle.nest_loop.specs.Canonical.{is_variable, stride_of, bound_after, canonical_by, with_test, start_form, canonical}
use Rattle.law_commute.proofs.Values.{first_of, second_of}
use Rattle.flow_doacross.specs.Nests.{is_rising, goes_by_one}
use Rattle.flow_doacross.specs.Laws.{CountsUp, LoopsCountUpAnywhere}

kept_is : (f g : Affine) → kept f ≡ Some g → f ≡ g
kept_is f g e = by (is_small f.constant && are_small f.terms && nat_le (length f.terms) 32) e
  where
    by : (b : Bool) → (if b then Some f else None) ≡ Some g → f ≡ g
    by true h = same_Some f g h
    by false h = absurd (none-some g h)

-- a form without a variable is the same everywhere
record IsNumber (box : List Side) (e : Expr) (f : Affine) : Type 0 where
  same : form_of box e ≡ Some f
  alone : f.terms ≡ []

-- a sum of such forms
no_terms : (factor : ℤ) (ts us : List Term) → ts ≡ [] → us ≡ [] → with_multiple factor us ts ≡ []
no_terms factor ts us p q = ap (λ vs. with_multiple factor vs ts) q ∙ p

module _ (f g h : Affine) (left : f.terms ≡ []) (right : g.terms ≡ []) where
  sum_alone : (factor : ℤ) → kept (plus_multiple f factor g) ≡ Some h → h.terms ≡ []
  sum_alone factor e = sym (ap (λ (a : Affine). a.terms) (kept_is (plus_multiple f factor g) h e)) ∙ no_terms factor f.terms g.terms left right

  left_alone : (factor : ℤ) → kept (multiple_form f factor) ≡ Some h → h.terms ≡ []
  left_alone factor e = sym (ap (λ (a : Affine). a.terms) (kept_is (multiple_form f factor) h e)) ∙ no_terms factor [] f.terms refl left

  right_alone : (factor : ℤ) → kept (multiple_form g factor) ≡ Some h → h.terms ≡ []
  right_alone factor e = sym (ap (λ (a : Affine). a.terms) (kept_is (multiple_form g factor) h e)) ∙ no_terms factor [] g.terms refl right

  product_alone : (a b : Bool) → product a b f g ≡ Some h → h.terms ≡ []
  product_alone true b e = right_alone f.constant e
  product_alone false true e = left_alone g.constant e
  product_alone false false e = absurd (none-some h e)

  operated_alone : (op : BinaryOp) (a b : Bool) → operated op a b f g ≡ Some h → h.terms ≡ []
  operated_alone Plus a b e = sum_alone (pos 1) e
  operated_alone Minus a b e = sum_alone (negsuc 0) e
  operated_alone Times a b e = product_alone a b e
  operated_alone Divide a b e = absurd (none-some h e)
  operated_alone Remainder a b e = absurd (none-some h e)
  operated_alone BitAnd a b e = absurd (none-some h e)
  operated_alone BitOr a b e = absurd (none-some h e)
  operated_alone BitXor a b e = absurd (none-some h e)
  operated_alone ShiftLeft a b e = absurd (none-some h e)
  operated_alone ShiftRight a b e = absurd (none-some h e)

module _ (box : List Side) where
  abbrev Known : Expr → Type 0
  Known a = (f : Affine) → form_of [] a ≡ Some f → IsNumber box a f

  number_is : (e : Expr) → Known e
  number_is (Literal n suffix) f e = record { same = e; alone = sym (ap (λ (a : Affine). a.terms) (kept_is (constant_form (pos n)) f e)) }
  number_is (Constant name n) f e = record { same = e; alone = sym (ap (λ (a : Affine). a.terms) (kept_is (constant_form (pos n)) f e)) }
  number_is (Object x no_exprs) f e = absurd (none-some f e)
  number_is (Object x (more_exprs i is)) f e = absurd (none-some f e)
  number_is (Unary Negate a) f e = by (form_of [] a) refl (number_is a) e
    where
      opposite : Affine → Option Affine
      opposite g = kept (multiple_form g (negsuc 0))

      by : (o : Option Affine) → form_of [] a ≡ o → Known a → option_and_then opposite o ≡ Some f → IsNumber box (Unary Negate a) f
      by None p inner h = absurd (none-some f h)
      by (Some g) p inner h =
          let n = inner g p in
          record { same = ap (option_and_then opposite) n.same ∙ h; alone = left_alone g g f n.alone n.alone (negsuc 0) h }
  number_is (Unary Complement a) f e = absurd (none-some f e)
  number_is (Binary op a b) f e = by (form_of [] a) (form_of [] b) refl refl (number_is a) (number_is b) e
    where
      made : Affine → Affine → Option Affine
      made g h = operated op (is_number a) (is_number b) g h

      by : (o p : Option Affine) → form_of [] a ≡ o → form_of [] b ≡ p → Known a → Known b → both_then made o p ≡ Some f → IsNumber box (Binary op a b) f
      by None p l r left right h = absurd (none-some f h)
      by (Some g) None l r left right h = absurd (none-some f h)
      by (Some g) (Some i) l r left right h =
          let m = left g l in
          let n = right i r in
          record {
            same = ap (λ o. both_then made o (form_of box b)) m.same ∙ ap (both_then made (Some g)) n.same ∙ h;
            alone = operated_alone g i f m.alone n.alone op (is_number a) (is_number b) h;
          }
  number_is (Conditional c a b) f e = absurd (none-some f e)

  start_is : (s : Source) (f : Affine) → start_form [] s ≡ Some f → (start_form box s ≡ Some f) × (f.terms ≡ [])
  start_is (Number e) f h = let n = number_is e f h in (n.same, n.alone)
  start_is (Truth c) f h = absurd (none-some f h)

-- what a canonical loop is made of
parts : (x : Variable) (s : Option Stride) (b : Option Bound) (o p : Option Affine) (l : Canonical) → canonical_by x s b o p ≡ Some l → (o ≡ Some l.start) × (p ≡ Some l.limit)
parts x None b o p l e = absurd (none-some l e)
parts x (Some s) None o p l e = absurd (none-some l e)
parts x (Some s) (Some b) None p l e = absurd (none-some l e)
parts x (Some s) (Some b) (Some f) None l e = absurd (none-some l e)
parts x (Some s) (Some b) (Some f) (Some g) l e = (ap (option_map (λ (c : Canonical). c.start)) e, ap (option_map (λ (c : Canonical). c.limit)) e)

module _ (box : List Side) (x : Variable) (start : Source) (s : Option Stride) (l : Canonical) where
  abbrev Tested : Cond → Type 0
  Tested test = (with_test box x (start_form box start) test s ≡ Some l) × (l.start.terms ≡ []) × (l.limit.terms ≡ [])

  same_test : (test : Cond) → with_test [] x (start_form [] start) test s ≡ Some l → Tested test
  same_test (NotZero e) h = absurd (none-some l h)
  same_test (Not c) h = absurd (none-some l h)
  same_test (LogicalAnd c d) h = absurd (none-some l h)
  same_test (LogicalOr c d) h = absurd (none-some l h)
  same_test (Compare op a ub) h = by (is_variable x a) refl h
    where
      here : List Side → Bool → Option Canonical
      here at b = if b then canonical_by x s (bound_after op s) (start_form at start) (form_of at ub) else None

      by : (b : Bool) → is_variable x a ≡ b → here [] b ≡ Some l → Tested (Compare op a ub)
      by false e g = absurd (none-some l g)
      by true e g =
          let both = parts x s (bound_after op s) (start_form [] start) (form_of [] ub) l g in
          let first = start_is box start l.start both.0 in
          let last = number_is box ub l.limit both.1 in (
            ap (here box) e ∙ ap (λ o. canonical_by x s (bound_after op s) o (form_of box ub)) (first.0 ∙ sym both.0) ∙ ap (canonical_by x s (bound_after op s) (start_form [] start)) (last.same ∙ sym both.1) ∙ g,
            first.1,
            last.alone,
          )

rising : (d : Direction) → is_rising d ≡ true → d ≡ Rising
rising Rising e = refl
rising Falling e = absurd (cc e)

pub count_up_anywhere : LoopsCountUpAnywhere
count_up_anywhere box h e = by (canonical [] h.variable h.start h.test h.step) refl e
  where
    by : (o : Option Canonical) → canonical [] h.variable h.start h.test h.step ≡ o → goes_by_one o ≡ true → CountsUp box h
    by None f g = absurd (cc g)
    by (Some l) f g =
        let found = same_test box h.variable h.start (stride_of h.variable h.step) l h.test f in
        record {
          loop = l;
          form = found.0;
          numbers = record { start = found.1; limit = found.2 };
          rises = rising l.stride.direction (first_of (is_rising l.stride.direction) (l.stride.by == 1) g);
          by_one = eqb-true l.stride.by 1 (second_of (is_rising l.stride.direction) (l.stride.by == 1) g);
        }
