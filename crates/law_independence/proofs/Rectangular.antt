-- Rectangular nests: each loop has one form inside the loops round the nest and inside those of the nest, too.
use Rattle.std.specs.Prelude.{Bool, true, false, ◌≡◌, ◌==◌, List, [], ◌∷◌, Option, Some, None, option_and_then, negsuc}
use Rattle.std.proofs.Common.{refl, sym, ap, ◌∙◌, cond}
use Rattle.std.proofs.lemmas.Option.{none-some, same_Some}
use Rattle.semantics.specs.Tree.{Variable, Negate, Complement, Expr, Literal, Constant, Object, Unary, Binary, Conditional, no_exprs, more_exprs, Cond, NotZero, Compare, Not, LogicalAnd, LogicalOr, Source, Number, Truth, Increment}
use Rattle.semantics.specs.Meaning.Value.{both_then}
use Rattle.semantics.specs.Loops.Nest.{Loop}
use Rattle.affine.specs.declared.interval.Side.{Side}
use Rattle.affine.specs.Affine.{Affine}
use Rattle.affine.specs.Arithmetic.{variable_form, multiple_form}
use Rattle.affine_expr.specs.Forms.{kept, is_counter, is_number, operated, form_of}
use Rattle.nest_loop.specs.declared.stride.Stride.{Stride}
use Rattle.nest_loop.specs.declared.stride.Bound.{Bound}
use Rattle.nest_loop.specs.declared.head.Canonical.{Canonical}
use Rattle.nest_loop.specs.Canonical.{is_variable, stride_of, bound_after, canonical_by, start_form, canonical}
use Rattle.nest_loop.proofs.Heads.{guarded}
use Rattle.pairtest_counter.specs.Levels.{Nesting}
use Rattle.nest.specs.Perfect.{AreRectangular}
use Rattle.nest_space.specs.Heads.{AreHeadsOf}
use Rattle.law_turns.specs.Turns.{AreEntered}
use Rattle.law_turns.proofs.Iterating.{nested}
use Rattle.law_independence.proofs.Entered.{entered_loops}

wider_by : (x : Variable) (s : Option Stride) (b : Option Bound) (o p o' p' : Option Affine) (l : Canonical) → ((f : Affine) → o ≡ Some f → o' ≡ Some f) → ((f : Affine) → p ≡ Some f → p' ≡ Some f)
    → canonical_by x s b o p ≡ Some l → canonical_by x s b o' p' ≡ Some l
wider_by x (Some s) (Some b) (Some f) (Some g) o' p' l first last e =
    ap (λ (q : Option Affine). canonical_by x (Some s) (Some b) q p') (first f refl) ∙ ap (λ (q : Option Affine). canonical_by x (Some s) (Some b) (Some f) q) (last g refl) ∙ e
wider_by x (Some s) (Some b) (Some f) None o' p' l first last e = absurd (none-some l e)
wider_by x (Some s) (Some b) None p o' p' l first last e = absurd (none-some l e)
wider_by x (Some s) None o p o' p' l first last e = absurd (none-some l e)
wider_by x None b o p o' p' l first last e = absurd (none-some l e)

module _ (box big : List Side) (more : (x : Variable) → is_counter box x ≡ true → is_counter big x ≡ true) where
  -- an expression has the same form inside further loops
  wider : (e : Expr) (f : Affine) → form_of box e ≡ Some f → form_of big e ≡ Some f
  wider (Literal n suffix) f h = h
  wider (Constant name n) f h = h
  wider (Object x no_exprs) f h = go (is_counter box x) refl h
    where
      go : (b : Bool) → is_counter box x ≡ b → cond b (Some (variable_form x)) None ≡ Some f → cond (is_counter big x) (Some (variable_form x)) None ≡ Some f
      go true q g = ap (λ b. cond b (Some (variable_form x)) None) (more x q) ∙ g
      go false q g = absurd (none-some f g)
  wider (Object x (more_exprs i is)) f h = absurd (none-some f h)
  wider (Unary Negate a) f h = go (form_of box a) refl h (λ g. wider a g)
    where
      go : (o : Option Affine) → form_of box a ≡ o → option_and_then (λ f. kept (multiple_form f (negsuc 0))) o ≡ Some f → ((g : Affine) → form_of box a ≡ Some g → form_of big a ≡ Some g)
          → option_and_then (λ f. kept (multiple_form f (negsuc 0))) (form_of big a) ≡ Some f
      go None q k same = absurd (none-some f k)
      go (Some g) q k same = ap (option_and_then (λ f. kept (multiple_form f (negsuc 0)))) (same g q) ∙ k
  wider (Unary Complement a) f h = absurd (none-some f h)
  wider (Binary op a b) f h = go (form_of box a) (form_of box b) refl refl h (λ g. wider a g) (λ g. wider b g)
    where
      go : (o p : Option Affine) → form_of box a ≡ o → form_of box b ≡ p → both_then (operated op (is_number a) (is_number b)) o p ≡ Some f
          → ((g : Affine) → form_of box a ≡ Some g → form_of big a ≡ Some g) → ((g : Affine) → form_of box b ≡ Some g → form_of big b ≡ Some g)
          → both_then (operated op (is_number a) (is_number b)) (form_of big a) (form_of big b) ≡ Some f
      go None p q r k same_a same_b = absurd (none-some f k)
      go (Some g) None q r k same_a same_b = absurd (none-some f k)
      go (Some g) (Some g') q r k same_a same_b =
          ap (λ (o : Option Affine). both_then (operated op (is_number a) (is_number b)) o (form_of big b)) (same_a g q)
          ∙ ap (λ (o : Option Affine). both_then (operated op (is_number a) (is_number b)) (Some g) o) (same_b g' r)
          ∙ k
  wider (Conditional c a b) f h = absurd (none-some f h)

  wider_start : (start : Source) (f : Affine) → start_form box start ≡ Some f → start_form big start ≡ Some f
  wider_start (Number e) f h = wider e f h
  wider_start (Truth c) f h = absurd (none-some f h)

  -- so does a loop
  pub wider_loop : (x : Variable) (start : Source) (test : Cond) (step : Increment) (l : Canonical) → canonical box x start test step ≡ Some l → canonical big x start test step ≡ Some l
  wider_loop x start (Compare op a ub) step l e =
      let tested = guarded (is_variable x a) (canonical_by x (stride_of x step) (bound_after op (stride_of x step)) (start_form box start) (form_of box ub)) l e in
      ap (λ b. cond b (canonical_by x (stride_of x step) (bound_after op (stride_of x step)) (start_form big start) (form_of big ub)) None) tested.0
      ∙ wider_by x (stride_of x step) (bound_after op (stride_of x step)) (start_form box start) (form_of box ub) (start_form big start) (form_of big ub) l
      (λ f h. wider_start start f h) (λ f h. wider ub f h) tested.1
  wider_loop x start (NotZero c) step l e = absurd (none-some l e)
  wider_loop x start (Not c) step l e = absurd (none-some l e)
  wider_loop x start (LogicalAnd c d) step l e = absurd (none-some l e)
  wider_loop x start (LogicalOr c d) step l e = absurd (none-some l e)

counted_further : (s : Side) (box : List Side) (x : Variable) → is_counter box x ≡ true → is_counter (s ∷ box) x ≡ true
counted_further s box x c = go (s.variable.0 == x)
  where
    go : (b : Bool) → cond b true (is_counter box x) ≡ true
    go true = refl
    go false = c

heads_inside : (box : List Side) (hs : List Loop) (before after : Nesting) (entered : AreEntered before hs after) (ls : List Canonical) → AreRectangular box hs ls
    → ((x : Variable) → is_counter box x ≡ true → is_counter before.box x ≡ true) → AreHeadsOf box hs (entered_loops hs before after entered)
heads_inside box [] before after entered ls r more = tt
heads_inside box (h ∷ hs) before after (s, v, is, level, rest) [] r more = absurd r
heads_inside box (h ∷ hs) before after (s, v, is, level, rest) (l ∷ ls) r more =
    let there = wider_loop box before.box more h.variable h.start h.test h.step l r.0 in
    let same : l ≡ v.canonical = same_Some l v.canonical (sym there ∙ is.is) in (
      record { scope = is.scope; order = is.order; tokens = is.tokens; small = is.small; reads = is.reads; is = r.0 ∙ ap Some same; other = r.1 },
      heads_inside box hs (nested before s v) after rest ls r.2 (λ x c. counted_further s before.box x (more x c)),
    )

-- the loops of a rectangular nest that were entered, inside those round the nest
pub heads_of : (hs : List Loop) (before after : Nesting) (entered : AreEntered before hs after) (ls : List Canonical) → AreRectangular before.box hs ls
    → AreHeadsOf before.box hs (entered_loops hs before after entered)
heads_of hs before after entered ls r = heads_inside before.box hs before after entered ls r (λ x c. c)
