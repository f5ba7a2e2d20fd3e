-- Forms in the counters of loops, and what they stand for.
use Rattle.std.specs.Prelude.{ℕ, Bool, true, false, ◌≡◌, ◌<◌, ◌==◌, ℤ, pos, ◌+ℤ◌, ◌*ℤ◌, List, [], ◌∷◌, length, All, Option, Some, None, option_map}
use Rattle.std.proofs.Common.{refl, sym, ap, ◌∙◌, subst, cond, arith}
use Rattle.std.proofs.lemmas.Bool.{eqb-true, eqb-false}
use Rattle.std.proofs.lemmas.Int.{ints}
use Rattle.std.proofs.lemmas.Option.{none-some, same_Some}
use Rattle.std.proofs.lemmas.List.Elements.{All-nil, All-cons, All-head, All-tail, All-weaker}
use Rattle.semantics.specs.Tree.{Variable}
use Rattle.affine.specs.declared.interval.Side.{Side}
use Rattle.affine.specs.declared.term.Term.{Term}
use Rattle.affine.specs.Affine.{Affine, term_sum, value}
use Rattle.affine.specs.Arithmetic.{constant_form, variable_form, sum_form, multiple_form, term, term_before, with_more, with_multiple}
use Rattle.affine.proofs.Terms.{by_zero, by_order, term_before-zero, term_before-other, with_more-front, with_more-same, with_more-below}
use Rattle.affine.proofs.Values.{value-sum_form, value-multiple_form, value-difference, with_value-same, with_value-other}
use Rattle.nest_loop.specs.declared.stride.Direction.{Direction}
use Rattle.nest_loop.specs.declared.stride.Direction.TheVariants.{Rising, Falling}
use Rattle.nest_loop.specs.declared.head.Canonical.{Canonical}
use Rattle.nest_loop.specs.Sides.{end_shift}
use Rattle.nest_loop.specs.Most.{way, distance}
use Rattle.nest_loop.proofs.Turning.{distance_is}
use Rattle.pairtest_counter.specs.declared.level.EnclosingLoop.{EnclosingLoop}
use Rattle.pairtest_counter.specs.declared.level.Forms.{Forms}
use Rattle.pairtest_counter.specs.Counters.{step_by, place_in, Adds, none_left, one_more, InCounters, stepped, form_way, AreForms, Given}
use Rattle.pairtest_counter.specs.Levels.{AreLevels, values_at}

-- ---- values

-- what the forms of places stand for
abbrev PlacesAre : List EnclosingLoop → (ℕ → ℤ) → Type 0
PlacesAre levels steps = (x : Variable) (p : Affine) → place_in levels x ≡ Some p → value p steps ≡ values_at levels steps x

adds_value : (levels : List EnclosingLoop) (steps : ℕ → ℤ) (f : Affine) (ts : List Term) (g : Affine) → PlacesAre levels steps → Adds levels f ts g
    → value g steps ≡ value f steps +ℤ term_sum ts (values_at levels steps)
adds_value levels steps f [] g places none_left = alone (value f steps)
  where
    alone : (a : ℤ) → a ≡ a +ℤ pos 0
    alone a = omega (arith, ints)
adds_value levels steps f (t ∷ ts) g places (one_more {p = p} at fits more rest) =
    adds_value levels steps (sum_form f (multiple_form p t.coefficient)) ts g places rest
    ∙ ap (λ (z : ℤ). z +ℤ term_sum ts (values_at levels steps)) (value-sum_form f (multiple_form p t.coefficient) steps)
    ∙ ap (λ (z : ℤ). (value f steps +ℤ z) +ℤ term_sum ts (values_at levels steps))
    (value-multiple_form p t.coefficient steps ∙ ap (λ (z : ℤ). z *ℤ t.coefficient) (places t.variable.0 p at))
    ∙ turned (value f steps) (values_at levels steps t.variable.0) t.coefficient (term_sum ts (values_at levels steps))
  where
    turned : (a v c r : ℤ) → (a +ℤ v *ℤ c) +ℤ r ≡ a +ℤ (c *ℤ v +ℤ r)
    turned a v c r = omega (arith, ints)

from_places : (levels : List EnclosingLoop) (steps : ℕ → ℤ) (f g : Affine) → PlacesAre levels steps → InCounters levels f g → value g steps ≡ value f (values_at levels steps)
from_places levels steps f g places h =
    adds_value levels steps (constant_form f.constant) f.terms g places h
    ∙ ap (λ (z : ℤ). z +ℤ term_sum f.terms (values_at levels steps)) (alone f.constant)
  where
    alone : (a : ℤ) → a +ℤ pos 0 ≡ a
    alone a = omega (arith, ints)

-- a start and so many steps
stepped_value : (n : ℕ) (l : Canonical) (start : Affine) (steps : ℕ → ℤ) → value (stepped n l start) steps ≡ value start steps +ℤ step_by l.stride.direction l.stride.by *ℤ steps n
stepped_value n l start steps =
    value-sum_form start (multiple_form (variable_form n) (step_by l.stride.direction l.stride.by)) steps
    ∙ ap (λ (z : ℤ). value start steps +ℤ z)
    (value-multiple_form (variable_form n) (step_by l.stride.direction l.stride.by) steps ∙ turned (steps n) (step_by l.stride.direction l.stride.by))
  where
    turned : (a b : ℤ) → (pos 0 +ℤ (pos 1 *ℤ a +ℤ pos 0)) *ℤ b ≡ b *ℤ a
    turned a b =
        let once : pos 0 +ℤ (pos 1 *ℤ a +ℤ pos 0) ≡ a = omega (arith, ints) in
        ap (λ (z : ℤ). z *ℤ b) once ∙ other a b
      where
        other : (a b : ℤ) → a *ℤ b ≡ b *ℤ a
        other a b = omega (arith, ints)

given_forms : (outer : List EnclosingLoop) (l : Canonical) (o : Option Forms) (f : Forms) → Given (AreForms outer l) o → o ≡ Some f → AreForms outer l f
given_forms outer l None f h e = absurd (none-some f e)
given_forms outer l (Some g) f h e = subst (AreForms outer l) (same_Some g f e) h

-- the form of a place in its options
place_there : (o : Option Forms) (p : Affine) → option_map (λ f. f.place) o ≡ Some p → (f : Forms) × (o ≡ Some f) × (f.place ≡ p)
place_there None p e = absurd (none-some p e)
place_there (Some f) p e = (f, refl, same_Some f.place p e)

-- the place of a variable: it is the innermost loop's, or one round it
by_place : {P : Type 0} (v : EnclosingLoop) (vs : List EnclosingLoop) (x : Variable) (p : Affine) → place_in (v ∷ vs) x ≡ Some p
    → (v.canonical.variable.0 ≡ x → (f : Forms) → v.forms ≡ Some f → f.place ≡ p → P) → ((x ≡ v.canonical.variable.0 → ⊥) → place_in vs x ≡ Some p → P) → P
by_place {P} v vs x p e here there = by (v.canonical.variable.0 == x) refl
  where
    by : (b : Bool) → (v.canonical.variable.0 == x) ≡ b → P
    by true same =
        let found = place_there v.forms p (subst (λ b. cond b (option_map (λ f. f.place) v.forms) (place_in vs x) ≡ Some p) same e) in
        here (eqb-true v.canonical.variable.0 x same) found.0 found.1 found.2
    by false other =
        there (λ q. eqb-false v.canonical.variable.0 x other (sym q))
        (subst (λ b. cond b (option_map (λ f. f.place) v.forms) (place_in vs x) ≡ Some p) other e)

-- the place of the innermost loop
own_place : (v : EnclosingLoop) (vs : List EnclosingLoop) (steps : ℕ → ℤ) (forms : Given (AreForms vs v.canonical) v.forms) (places : PlacesAre vs steps) (x : Variable) (p : Affine)
    → v.canonical.variable.0 ≡ x → (f : Forms) → v.forms ≡ Some f → f.place ≡ p → value p steps ≡ values_at (v ∷ vs) steps x
own_place v vs steps given places x p same f is at =
    let forms = given_forms vs v.canonical v.forms f given is in
    ap (λ (g : Affine). value g steps) (sym at ∙ forms.place)
    ∙ stepped_value (length vs) v.canonical forms.start steps
    ∙ ap (λ (z : ℤ). z +ℤ step_by v.canonical.stride.direction v.canonical.stride.by *ℤ steps (length vs))
    (from_places vs steps v.canonical.start forms.start places forms.starts)
    ∙ sym (with_value-same (values_at vs steps) v.canonical.variable.0
    (value v.canonical.start (values_at vs steps) +ℤ step_by v.canonical.stride.direction v.canonical.stride.by *ℤ steps (length vs)) x (sym same))

places_are : (box : List Side) (levels : List EnclosingLoop) (steps : ℕ → ℤ) → AreLevels box levels → PlacesAre levels steps
places_are [] [] steps are x p e = ap (λ (g : Affine). value g steps) (sym (same_Some (constant_form (pos 0)) p e))
places_are [] (v ∷ vs) steps are x p e = absurd are
places_are (s ∷ ss) [] steps are x p e = absurd are
places_are (s ∷ ss) (v ∷ vs) steps are x p e =
    let places = places_are ss vs steps are.1 in
    by_place v vs x p e (λ same f is at. own_place v vs steps are.0.forms places x p same f is at)
    (λ other q. places x p q ∙ sym (with_value-other (values_at vs steps) v.canonical.variable.0
    (value v.canonical.start (values_at vs steps) +ℤ step_by v.canonical.stride.direction v.canonical.stride.by *ℤ steps (length vs)) x other))

pub in_counters_value : (box : List Side) (levels : List EnclosingLoop) (f g : Affine) (steps : ℕ → ℤ) → AreLevels box levels → InCounters levels f g → value g steps ≡ value f (values_at levels steps)
in_counters_value box levels f g steps are h = from_places levels steps f g (places_are box levels steps are) h

-- ---- reaches

way_value : (d : Direction) (first end : Affine) (steps : ℕ → ℤ) → value (form_way d first end) steps ≡ way d (value first steps) (value end steps)
way_value Rising first end steps = value-difference end first steps
way_value Falling first end steps = value-difference first end steps

pub reach_value : (box : List Side) (levels : List EnclosingLoop) (l : Canonical) (f : Forms) (steps : ℕ → ℤ) → AreLevels box levels → AreForms levels l f → value f.reach steps ≡ distance l (values_at levels steps)
reach_value box levels l f steps are forms =
    let d = l.stride.direction in
    let shift : ℤ = way d (pos 0) (end_shift d l.bound) in
    ap (λ (g : Affine). value g steps) forms.reach
    ∙ value-sum_form (form_way d forms.start forms.limit) (constant_form shift) steps
    ∙ distance_is l (values_at levels steps) (value (form_way d forms.start forms.limit) steps) (value (constant_form shift) steps) shift
    (way_value d forms.start forms.limit steps
    ∙ ap (λ (z : ℤ). way d z (value forms.limit steps)) (in_counters_value box levels l.start forms.start steps are forms.starts)
    ∙ ap (λ (z : ℤ). way d (value l.start (values_at levels steps)) z) (in_counters_value box levels l.limit forms.limit steps are forms.limits))
    refl refl

-- ---- variables

-- all variables are below a number
abbrev AreBelow : ℕ → List Term → Type 0
AreBelow n ts = All (λ t. t.variable.0 < n) ts

below_before : (n : ℕ) (x : Variable) (c : ℤ) (ts : List Term) → x < n → AreBelow n ts → AreBelow n (term_before x c ts)
below_before n x c ts less h =
    by_zero c (λ e. subst (AreBelow n) (sym (term_before-zero x c ts e)) h)
    (λ e. subst (AreBelow n) (sym (term_before-other x c ts e)) (All-cons (λ (u : Term). u.variable.0 < n) (term x c) ts less h))

below_more : (n : ℕ) (x : Variable) (c : ℤ) (ts : List Term) → x < n → AreBelow n ts → AreBelow n (with_more x c ts)
below_more n x c [] less h = below_before n x c [] less h
below_more n x c (t ∷ ts) less h =
    let P : Term → Type 0 = λ u. u.variable.0 < n in
    let rest = All-tail P t ts h in
    by_order x t.variable.0
    (λ k. subst (AreBelow n) (sym (with_more-front x c t ts k)) (below_before n x c (t ∷ ts) less h))
    (λ k. subst (AreBelow n) (sym (with_more-same x c t ts (sym k))) (below_before n x (t.coefficient +ℤ c) ts less rest))
    (λ k. subst (AreBelow n) (sym (with_more-below x c t ts k)) (All-cons P t (with_more x c ts) (All-head P t ts h) (below_more n x c ts less rest)))

below_multiple : (n : ℕ) (factor : ℤ) (us ts : List Term) → AreBelow n us → AreBelow n ts → AreBelow n (with_multiple factor us ts)
below_multiple n factor [] ts g h = h
below_multiple n factor (u ∷ us) ts g h =
    let P : Term → Type 0 = λ v. v.variable.0 < n in
    below_more n u.variable.0 (factor *ℤ u.coefficient) (with_multiple factor us ts) (All-head P u us g) (below_multiple n factor us ts (All-tail P u us g) h)

below_none : (n : ℕ) → AreBelow n []
below_none n = All-nil (λ (u : Term). u.variable.0 < n)

-- those of the forms of places are
abbrev PlacesBelow : List EnclosingLoop → Type 0
PlacesBelow levels = (x : Variable) (p : Affine) → place_in levels x ≡ Some p → AreBelow (length levels) p.terms

adds_below : (n : ℕ) (levels : List EnclosingLoop) (f : Affine) (ts : List Term) (g : Affine) → ((x : Variable) (p : Affine) → place_in levels x ≡ Some p → AreBelow n p.terms) → Adds levels f ts g
    → AreBelow n f.terms → AreBelow n g.terms
adds_below n levels f [] g places none_left h = h
adds_below n levels f (t ∷ ts) g places (one_more {p = p} at fits more rest) h =
    adds_below n levels (sum_form f (multiple_form p t.coefficient)) ts g places rest
    (below_multiple n (pos 1) (multiple_form p t.coefficient).terms f.terms (below_multiple n t.coefficient p.terms [] (places t.variable.0 p at) (below_none n)) h)

below_from_places : (levels : List EnclosingLoop) (f g : Affine) → PlacesBelow levels → InCounters levels f g → AreBelow (length levels) g.terms
below_from_places levels f g places h = adds_below (length levels) levels (constant_form f.constant) f.terms g places h (below_none (length levels))

one_less : (v : EnclosingLoop) (vs : List EnclosingLoop) (ts : List Term) → AreBelow (length vs) ts → AreBelow (length (v ∷ vs)) ts
one_less v vs ts h = All-weaker (λ (u : Term). u.variable.0 < length vs) (λ (u : Term). u.variable.0 < length (v ∷ vs)) (λ u k. omega arith) ts h

own_below : (v : EnclosingLoop) (vs : List EnclosingLoop) (forms : Given (AreForms vs v.canonical) v.forms) → PlacesBelow vs → (p : Affine) (f : Forms) → v.forms ≡ Some f → f.place ≡ p
    → AreBelow (length (v ∷ vs)) p.terms
own_below v vs given places p f is at =
    let forms = given_forms vs v.canonical v.forms f given is in
    let n = length (v ∷ vs) in
    let last : length vs < n = omega arith in
    let by = step_by v.canonical.stride.direction v.canonical.stride.by in
    let counter : AreBelow n (variable_form (length vs)).terms = All-cons (λ (u : Term). u.variable.0 < n) (term (length vs) (pos 1)) [] last (below_none n) in
    subst (λ (g : Affine). AreBelow n g.terms) (sym forms.place ∙ at)
    (below_multiple n (pos 1) (multiple_form (variable_form (length vs)) by).terms forms.start.terms
    (below_multiple n by (variable_form (length vs)).terms [] counter (below_none n))
    (one_less v vs forms.start.terms (below_from_places vs v.canonical.start forms.start places forms.starts)))

places_below : (box : List Side) (levels : List EnclosingLoop) → AreLevels box levels → PlacesBelow levels
places_below [] [] are x p e = subst (λ (g : Affine). AreBelow 0 g.terms) (same_Some (constant_form (pos 0)) p e) (below_none 0)
places_below [] (v ∷ vs) are x p e = absurd are
places_below (s ∷ ss) [] are x p e = absurd are
places_below (s ∷ ss) (v ∷ vs) are x p e =
    let places = places_below ss vs are.1 in
    by_place v vs x p e (λ same f is at. own_below v vs are.0.forms places p f is at) (λ other q. one_less v vs p.terms (places x p q))

pub in_counters_below : (box : List Side) (levels : List EnclosingLoop) (f g : Affine) → AreLevels box levels → InCounters levels f g → All (λ t. t.variable.0 < length levels) g.terms
in_counters_below box levels f g are h = below_from_places levels f g (places_below box levels are) h
