-- What the definitions say of a state, in the values of the loops' variables: the first turns of loops, and the indexes of an element.
use Rattle.std.specs.Prelude.{ℕ, zero, suc, Bool, true, false, ◌≡◌, ◌==◌, ◌<◌, ◌^◌, ℤ, pos, ◌<ℤ◌, List, [], ◌∷◌, ◌++◌, Option, Some, slice_get, option_and_then}
use Rattle.std.proofs.Common.{refl, sym, ap, ◌∙◌, subst, cond, arith}
use Rattle.std.proofs.lemmas.Int.{ints}
use Rattle.std.proofs.lemmas.List.{append-nil}
use Rattle.std.proofs.lemmas.Option.{none-some, same_Some}
use Rattle.semantics.specs.Tree.{Variable, Expr, Exprs, no_exprs, more_exprs}
use Rattle.semantics.specs.Meaning.State.{State, Slot, Holds}
use Rattle.semantics.specs.Meaning.Value.{values}
use Rattle.semantics.specs.Meaning.Value as meaning
use Rattle.semantics.specs.Loops.Nest.{Loop, Vector, at_value}
use Rattle.affine.specs.declared.interval.Side.{Side}
use Rattle.affine.specs.Affine.{Affine, value}
use Rattle.affine.specs.Box.{only_zero, interval_at, IsInside, Holds as IsHeld}
use Rattle.affine_expr.specs.Forms.{form_of, is_counter}
use Rattle.nest_loop.specs.declared.stride.Stride.{Stride}
use Rattle.nest_loop.specs.declared.head.Canonical.{Canonical}
use Rattle.nest_loop.specs.Turn.{AtTurn, HoldsValue}
use Rattle.nest_loop.proofs.FormValues.{form_number}
use Rattle.pairtest_counter.specs.Levels.{Nesting}
use Rattle.nest.specs.Nests.{StaysBelow, AllStay}
use Rattle.nest_space.specs.declared.bounds.Value.{Value}
use Rattle.nest_space.specs.Space.{Turns, counted, values_of, vectors}
use Rattle.nest_space.specs.Nests.{given, AreRunsOf}
use Rattle.nest_space.specs.Reached.{AreRunsReached}
use Rattle.nest_space.proofs.Counted.{found_at}
use Rattle.nest_space.proofs.Places.{pair_found, never_empty}
use Rattle.nest_space.proofs.Walks.{values_are}
use Rattle.pairtest_access.specs.Found.{AreEach}
use Rattle.deptest_witness.specs.Touching.{holding, FirstTurns, AreIndexes}
use Rattle.law_turns.specs.Turns.{AreEntered}
use Rattle.law_turns.proofs.OneLoop.{run_there, run_within, run_value, side_there}
use Rattle.law_turns.proofs.Iterating.{nested}
use Rattle.law_independence.specs.Inside.{AreShort}
use Rattle.law_independence.specs.ConflictLaws.{first_value, first_turns}
use Rattle.law_independence.proofs.Counted.{both_parts, further_below}
use Rattle.law_independence.proofs.Entered.{entered_loops}
use Rattle.law_independence.proofs.Values.{IsAt, one_more, more_inside}

-- ---- values in a box

-- a variable holds one number
pub same_number : (slot : Slot) (a b : ℤ) → HoldsValue slot a → HoldsValue slot b → a ≡ b
same_number slot a b p q =
    let same : Holds p.number ≡ Holds q.number = sym p.held ∙ q.held in
    let numbers : p.number ≡ q.number = cc in
    p.is ∙ ap pos numbers ∙ sym q.is

-- a variable that no loop of a box has is 0
only_zero_outside : (box : List Side) (y : Variable) → is_counter box y ≡ false → interval_at box y ≡ only_zero
only_zero_outside [] y none = refl
only_zero_outside (s ∷ box) y none = by (s.variable.0 == y) none (only_zero_outside box y)
  where
    by : (b : Bool) → cond b true (is_counter box y) ≡ false → (is_counter box y ≡ false → interval_at box y ≡ only_zero) → cond b s.interval (interval_at box y) ≡ only_zero
    by true e rest = absurd (cc e)
    by false e rest = rest e

-- at a turn the values that are given are in the box
pub inside_at : (box : List Side) (there : List Value) (numbers : Variable → ℤ) (s : State) → IsAt box there s → AtTurn box numbers s → IsInside box (given there)
inside_at box there numbers s at turn y = by (is_counter box y) refl
  where
    by : (b : Bool) → is_counter box y ≡ b → IsHeld (interval_at box y) (given there y)
    by true c = subst (IsHeld (interval_at box y)) (same_number (s.locals y) (numbers y) (given there y) (turn.counters y c) (at.counters y c)) (turn.inside y)
    by false c =
        let none : given there y ≡ pos 0 = ap (λ (vs : List Value). given vs y) (sym (append-nil there)) ∙ at.fresh y c [] in
        subst (λ i. IsHeld i (given there y)) (sym (only_zero_outside box y c))
        (subst (IsHeld only_zero) (sym none) (record { above = omega (arith, ints); below = omega (arith, ints) }))

-- ---- the first turns of loops

first_is : (s : Stride) (first n : ℕ) → 0 < n → slice_get (counted s first n) 0 ≡ Some first
first_is s first zero some = absurd (omega arith)
first_is s first (suc n) some = refl

some_first : (s : Stride) (first n : ℕ) (f : ℕ → Option State) (last : State) → option_and_then f (first_value (counted s first n)) ≡ Some last → (0 < n) × (f first ≡ Some last)
some_first s first zero f last e = absurd (none-some last e)
some_first s first (suc n) f last e = (omega arith, e)

-- the values of the variables of loops that were entered, in a state that is at the first turn of each
pub record IsBack (ls : List Canonical) (box : List Side) (before : List Value) (s : State) : Type 0 where
  pub there : List Value
  pub first : FirstTurns ls before there
  pub at : IsAt box there s
  pub inside : IsInside box (given there)

pub first_back : (hs : List Loop) (before after : Nesting) (entered : AreEntered before hs after) (numbers : List Value) (st last : State)
    → IsAt before.box numbers st → IsInside before.box (given numbers) → first_turns hs st ≡ Some last → IsBack (entered_loops hs before after entered) after.box numbers last
first_back [] before after entered numbers st last at inside e =
    record {
      there = numbers;
      first = refl;
      at = subst (λ (n : Nesting). IsAt n.box numbers last) entered (subst (IsAt before.box numbers) (same_Some st last e) at);
      inside = subst (λ (n : Nesting). IsInside n.box (given numbers)) entered inside;
    }
first_back (h ∷ hs) before after (s, v, is, level, rest) numbers st last at inside e =
    let l = v.canonical in
    let run = run_there l (given numbers) (level.stays (given numbers) inside) level.by_one in
    let t = run.0 in
    let vals = values_are before.box (given numbers) st at.counters h l is t run.1 in
    let turned = some_first t.stride t.first t.count (λ x. first_turns hs (at_value st h.variable x)) last
    (sym (ap (λ (o : Option (List ℕ)). option_and_then (λ x. first_turns hs (at_value st h.variable x)) (option_and_then first_value o)) vals) ∙ e) in
    let found = found_at t 0 t.first (first_is t.stride t.first t.count turned.0) in
    let reached = run_value l (given numbers) t 0 t.first run.1 turned.0 found.is in
    let held = subst (IsHeld level.numbers) (sym reached.is) (side_there before.box (given numbers) l level.numbers 0 level.are inside (run_within l (given numbers) t 0 run.1 turned.0)) in
    let more = one_more before.box before.levels numbers st at h s v is level t.first reached.below in
    let within = more_inside before.box before.levels numbers st at h s v is level t.first reached.below inside held in
    let inner = first_back hs (nested before s v) after rest (numbers ++ (holding l t.first ∷ [])) (at_value st h.variable t.first) last more within turned.1 in
    record { there = inner.there; first = (t, run.1, turned.0, inner.first); at = inner.at; inside = inner.inside }

-- loops that are all reached where their nest has an iteration
pub runs_reached : (ls : List Canonical) (numbers : Variable → ℤ) (ts : List Turns) (k : ℕ) (u : Vector) → AreRunsReached ls numbers ts → slice_get (vectors ts) k ≡ Some u → AreRunsOf ls numbers ts
runs_reached [] numbers [] k u runs e = tt
runs_reached [] numbers (t ∷ ts) k u runs e = absurd runs
runs_reached (l ∷ ls) numbers [] k u runs e = absurd runs
runs_reached (l ∷ ls) numbers (t ∷ ts) k [] runs e = absurd (never_empty (values_of t) (vectors ts) k e)
runs_reached (l ∷ ls) numbers (t ∷ ts) k (x ∷ us) runs e =
    let p = pair_found (values_of t) (vectors ts) k x us e in
    let turn = (found_at t p.outer x p.value).turn in
    (runs.0, runs_reached ls numbers ts p.inner us (runs.2 (omega arith)) p.vector)

-- ---- subscripts

small_index : (z : ℤ) (n i : ℕ) → z ≡ pos i → z <ℤ pos n → n < 2 ^ 64 → i < 2 ^ 64
small_index z n i is below short = omega (arith, ints)

module _ (s : State) (box : List Side) (there : List Value) (at : IsAt box there s) (inside : IsInside box (given there)) where
  -- a subscript that stays below a length has the value of its form
  index_back : (e : Expr) (f : Affine) (n i : ℕ) → form_of box e ≡ Some f → StaysBelow box n (form_of box e) → n < 2 ^ 64 → meaning.value s e ≡ Some i → (value f (given there) ≡ pos i) × (i < 2 ^ 64)
  index_back e f n i is stays short has =
      let within = subst (StaysBelow box n) is stays (given there) inside in
      let number = form_number box (given there) s at.counters e f is within.0 (further_below (value f (given there)) n (2 ^ 64) within.1 short) in
      let worth : value f (given there) ≡ pos i = number.2 ∙ ap pos (same_Some number.0 i (sym number.1 ∙ has)) in
      (worth, small_index (value f (given there)) n i worth within.1 short)

  -- so do those of an access that leaves no dimension
  pub indexes_back : (es : Exprs) (fs : List Affine) (ns is : List ℕ) → AreEach (λ e f. form_of box e ≡ Some f) es fs → AllStay box ns es → AreShort ns → values s es ≡ Some is → AreIndexes fs (given there) is
  indexes_back no_exprs [] [] is each stays short e = subst (AreIndexes [] (given there)) (same_Some [] is e) tt
  indexes_back no_exprs [] (n ∷ ns) is each stays short e = absurd stays
  indexes_back no_exprs (f ∷ fs) ns is each stays short e = absurd each
  indexes_back (more_exprs x xs) [] ns is each stays short e = absurd each
  indexes_back (more_exprs x xs) (f ∷ fs) [] is each stays short e = absurd stays
  indexes_back (more_exprs x xs) (f ∷ fs) (n ∷ ns) is each stays short e =
      let parts = both_parts (meaning.value s x) (values s xs) is e in
      let i = index_back x f n parts.first each.0 stays.0 short.0 parts.first_is in
      subst (AreIndexes (f ∷ fs) (given there)) parts.is_both (i.0, i.1, indexes_back xs fs ns parts.rest each.1 stays.1 short.1 parts.rest_is)
