-- Turns of loops as lists of counters, and what subscripts are worth there.
use Rattle.std.specs.Prelude.{ℕ, zero, suc, ◌≡◌, ◌<◌, ◌+◌, ◌-◌, ◌^◌, ℤ, pos, ◌+ℤ◌, ◌<ℤ◌, List, [], ◌∷◌, ◌++◌, length, map, reverse, take, All, Option, Some, None, unsigned_abs}
use Rattle.std.specs.List.{zip}
use Rattle.std.proofs.Common.{refl, sym, ap, ◌∙◌, subst, arith, ⊎_elim}
use Rattle.std.proofs.lemmas.Bool.{cases_order}
use Rattle.std.proofs.lemmas.Grind.{reverse_onto}
use Rattle.std.proofs.lemmas.Int.{ints}
use Rattle.std.proofs.lemmas.List.{map-append}
use Rattle.std.proofs.lemmas.List.Elements.{All-nil, All-cons}
use Rattle.std.proofs.lemmas.Option.{none-some, same_Some}
use Rattle.semantics.specs.Tree.{Expr, Exprs, no_exprs, more_exprs}
use Rattle.semantics.specs.Meaning.State.{State}
use Rattle.semantics.specs.Meaning.Value.{both, values}
use Rattle.semantics.specs.Meaning.Value as meaning
use Rattle.affine.specs.Affine.{value}
use Rattle.affine_expr.specs.Forms.{form_of}
use Rattle.nest_loop.specs.Turn.{AtTurn}
use Rattle.pairtest_counter.specs.declared.level.EnclosingLoop.{EnclosingLoop}
use Rattle.pairtest_counter.specs.Levels.{Nesting, AreLevels, values_at}
use Rattle.nest.specs.Nests.{StaysBelow, AllStay}
use Rattle.pairtest.specs.declared.access.Subscript.{Subscript}
use Rattle.pairtest.specs.Meetings.{Turn, counter_sum, value_at, AreBelow}
use Rattle.pairtest_access.specs.Found.{AreEach, IsSubscript, coefficients, inner_loops}
use Rattle.law_turns.specs.Turns.{AreCounters}
use Rattle.law_turns.proofs.Laws.{forms_in_counters_are_same, expressions_have_forms}
use Rattle.law_independence.specs.Inside.{AreShort}
use Rattle.law_independence.proofs.Sums.{stretch, stretch-last, in_counters_canonical, counted_value}

-- ---- counters are natural numbers

-- each of the first n values is that natural number
abbrev pub AreNatural : ℕ → (ℕ → ℤ) → (ℕ → ℕ) → Type 0
AreNatural n f k = (j : ℕ) → j < n → f j ≡ pos (k j)

-- a number of steps without its sign
abbrev pub counts_of : (ℕ → ℤ) → ℕ → ℕ
counts_of f j = unsigned_abs (f j)

pos_same : (a b : ℕ) → pos a ≡ pos b → a ≡ b
pos_same a b e = omega (arith, ints)

natural_of : (z : ℤ) (k : ℕ) → z ≡ pos k → z ≡ pos (unsigned_abs z)
natural_of z k e = e ∙ sym (ap (λ y. pos (unsigned_abs y)) e)

pub counters_natural : (levels : List EnclosingLoop) (f : ℕ → ℤ) → AreCounters 0 levels f → AreNatural (length levels) f (counts_of f)
counters_natural [] f few j lt = absurd (omega arith)
counters_natural (v ∷ vs) f few j lt =
    let own = few.0 (omega arith) in
    ⊎_elim (λ (e : j ≡ length vs). subst (λ i. f i ≡ pos (unsigned_abs (f i))) (sym e) (natural_of (f (length vs)) own.0 own.1))
    (λ o. ⊎_elim (λ (less : j < length vs). counters_natural vs f few.1 j less) (λ (more : length vs < j). absurd (omega arith)) o) (cases_order j (length vs))

-- ---- counters below the greatest counts

below_last : (ks ns : List ℕ) (k n : ℕ) → AreBelow ks ns → k < n → AreBelow (ks ++ (k ∷ [])) (ns ++ (n ∷ []))
below_last [] [] k n h lt = (lt, tt)
below_last [] (m ∷ ns) k n h lt = absurd h
below_last (j ∷ ks) [] k n h lt = absurd h
below_last (j ∷ ks) (m ∷ ns) k n h lt = (h.0, below_last ks ns k n h.1 lt)

below_so_many : (m outer : ℕ) (levels : List EnclosingLoop) (f : ℕ → ℤ) → m + outer ≡ length levels → AreCounters 0 levels f
    → AreBelow (stretch outer m (counts_of f)) (map (λ v. v.most) (reverse (take m levels)))
below_so_many zero outer [] f e few = tt
below_so_many zero outer (v ∷ vs) f e few = tt
below_so_many (suc m) outer [] f e few = absurd (omega arith)
below_so_many (suc m) outer (v ∷ vs) f e few =
    let most : EnclosingLoop → ℕ = λ w. w.most in
    let place : length vs ≡ outer + m = omega arith in
    let own = few.0 (omega arith) in
    let same : counts_of f (length vs) ≡ own.0 = pos_same (counts_of f (length vs)) own.0 (sym (natural_of (f (length vs)) own.0 own.1) ∙ own.1) in
    let less : counts_of f (outer + m) < v.most = subst (λ j. counts_of f j < v.most) place (subst (λ c. c < v.most) (sym same) own.2) in
    subst (λ ks. AreBelow ks (map most (reverse (v ∷ take m vs)))) (sym (stretch-last m outer (counts_of f)))
    (subst (λ ns. AreBelow (stretch outer m (counts_of f) ++ (counts_of f (outer + m) ∷ [])) ns)
    (sym (ap (map most) (reverse_onto (take m vs) v []) ∙ map-append most (reverse (take m vs)) (v ∷ [])))
    (below_last (stretch outer m (counts_of f)) (map most (reverse (take m vs))) (counts_of f (outer + m)) v.most
    (below_so_many m outer vs f (omega arith) few.1) less))

pub counters_below : (outer m : ℕ) (levels : List EnclosingLoop) (f : ℕ → ℤ) → m + outer ≡ length levels → AreCounters 0 levels f
    → AreBelow (stretch outer m (counts_of f)) (map (λ v. v.most) (inner_loops outer levels))
counters_below outer m levels f e few =
    let same : m ≡ length levels - outer = omega arith in
    subst (λ n. AreBelow (stretch outer m (counts_of f)) (map (λ v. v.most) (reverse (take n levels)))) same (below_so_many m outer levels f e few)

-- ---- subscripts

-- at a turn the subscripts have these values
abbrev pub AreWorth : Turn → List Subscript → List ℕ → Type 0
AreWorth turn [] [] = Unit {0}
AreWorth turn [] (i ∷ is) = ⊥
AreWorth turn (t ∷ ts) [] = ⊥
AreWorth turn (t ∷ ts) (i ∷ is) = (value_at t turn ≡ pos i) × AreWorth turn ts is

-- a turn whose counters are these
abbrev pub HasCounters : Turn → ℕ → (ℕ → ℤ) → Type 0
HasCounters turn n f = turn.serial ++ (turn.nest ++ turn.inner) ≡ stretch 0 n (counts_of f)

pub record IsBoth (o : Option ℕ) (p : Option (List ℕ)) (is : List ℕ) : Type 0 where
  pub first : ℕ
  pub rest : List ℕ
  pub first_is : o ≡ Some first
  pub rest_is : p ≡ Some rest
  pub is_both : first ∷ rest ≡ is

pub both_parts : (o : Option ℕ) (p : Option (List ℕ)) (is : List ℕ) → both (λ k ks. k ∷ ks) o p ≡ Some is → IsBoth o p is
both_parts None p is e = absurd (none-some is e)
both_parts (Some k) None is e = absurd (none-some is e)
both_parts (Some k) (Some ks) is e = record { first = k; rest = ks; first_is = refl; rest_is = refl; is_both = same_Some (k ∷ ks) is e }

pub further_below : (z : ℤ) (n m : ℕ) → z <ℤ pos n → n < m → z <ℤ pos m
further_below z n m lt le = omega (arith, ints)

module _ (round : Nesting) (steps : ℕ → ℤ) (s : State) (turn : Turn) (are : AreLevels round.box round.levels) (few : AreCounters 0 round.levels steps)
    (at : AtTurn round.box (values_at round.levels steps) s) (counted : HasCounters turn (length round.levels) steps) where
  -- a subscript's value at the turn is the number that the expression has
  subscript_worth : (e : Expr) (t : Subscript) (n i : ℕ) → IsSubscript round e t → StaysBelow round.box n (form_of round.box e) → n < 2 ^ 64 → meaning.value s e ≡ Some i → value_at t turn ≡ pos i
  subscript_worth e t n i is stays short has =
      let form = is.form in
      let g = is.counted in
      let within = subst (StaysBelow round.box n) is.of stays (values_at round.levels steps) at.inside in
      let number = expressions_have_forms round steps s e form g are at is.of is.in_counters within.0 (further_below (value form (values_at round.levels steps)) n (2 ^ 64) within.1 short) in
      let same : number.0 ≡ i = same_Some number.0 i (sym number.1 ∙ has) in
      let forms = forms_in_counters_are_same round.box round.levels form g steps are is.in_counters in
      ap (λ c. c +ℤ counter_sum t.coefficients.items (turn.serial ++ (turn.nest ++ turn.inner))) is.constant
      ∙ ap (λ cs. g.constant +ℤ counter_sum cs (turn.serial ++ (turn.nest ++ turn.inner))) is.coefficients
      ∙ ap (λ ks. g.constant +ℤ counter_sum (coefficients (length round.levels) g) ks) counted
      ∙ counted_value (length round.levels) g steps (counts_of steps) (in_counters_canonical round.levels form g is.in_counters) forms.1 (counters_natural round.levels steps few)
      ∙ sym number.2
      ∙ ap pos same

  pub each_worth : (es : Exprs) (ts : List Subscript) (ns is : List ℕ) → AreEach (IsSubscript round) es ts → AllStay round.box ns es → AreShort ns → values s es ≡ Some is → AreWorth turn ts is
  each_worth no_exprs [] [] is each stays short e = subst (AreWorth turn []) (same_Some [] is e) tt
  each_worth no_exprs [] (n ∷ ns) is each stays short e = absurd stays
  each_worth no_exprs (t ∷ ts) ns is each stays short e = absurd each
  each_worth (more_exprs x xs) [] ns is each stays short e = absurd each
  each_worth (more_exprs x xs) (t ∷ ts) [] is each stays short e = absurd stays
  each_worth (more_exprs x xs) (t ∷ ts) (n ∷ ns) is each stays short e =
      let parts = both_parts (meaning.value s x) (values s xs) is e in
      subst (AreWorth turn (t ∷ ts)) parts.is_both
      (subscript_worth x t n parts.first each.0 stays.0 short.0 parts.first_is, each_worth xs ts ns parts.rest each.1 stays.1 short.1 parts.rest_is)

-- subscripts that have the same values at two turns name one element
pub same_worth : (a b : Turn) (ts us : List Subscript) (is : List ℕ) → AreWorth a ts is → AreWorth b us is → All (λ d. value_at d.0 a ≡ value_at d.1 b) (zip ts us)
same_worth a b [] us is p q = All-nil (λ (d : Subscript × Subscript). value_at d.0 a ≡ value_at d.1 b)
same_worth a b (t ∷ ts) [] is p q = All-nil (λ (d : Subscript × Subscript). value_at d.0 a ≡ value_at d.1 b)
same_worth a b (t ∷ ts) (u ∷ us) [] p q = absurd p
same_worth a b (t ∷ ts) (u ∷ us) (i ∷ is) p q =
    All-cons (λ (d : Subscript × Subscript). value_at d.0 a ≡ value_at d.1 b) (t, u) (zip ts us) (p.0 ∙ sym q.0) (same_worth a b ts us is p.1 q.1)
