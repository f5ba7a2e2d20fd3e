-- The variables of the loops round a place hold given values.
use Rattle.std.specs.Prelude.{ℕ, zero, suc, Bool, true, false, ◌≡◌, ◌==◌, ◌<◌, ◌^◌, ℤ, pos, ◌≤ℤ◌, List, [], ◌∷◌, ◌++◌, map, Option, Some, None, option_and_then, slice_get}
use Rattle.std.proofs.Common.{refl, sym, ap, ◌∙◌, subst, cond, arith}
use Rattle.std.proofs.lemmas.Bool.{eqb-true, eqb-false, eq-eqb}
use Rattle.std.proofs.lemmas.Int.{ints}
use Rattle.std.proofs.lemmas.List.{append_assoc, append-nil}
use Rattle.std.proofs.lemmas.Option.{none-some, same_Some}
use Rattle.semantics.specs.Tree.{Variable}
use Rattle.semantics.specs.Meaning.State.{State, Holds}
use Rattle.semantics.specs.Meaning.Value.{both, map_option}
use Rattle.semantics.specs.Loops.Nest.{Loop, Vector, at_value, at_vector, iterations}
use Rattle.semantics.proofs.NestLaw.{local_same}
use Rattle.affine.specs.declared.interval.Side.{Side}
use Rattle.affine.specs.Affine.{value}
use Rattle.affine.specs.Box.{interval_at, IsInside, Holds as IsHeld}
use Rattle.affine_expr.specs.Forms.{is_counter}
use Rattle.nest_loop.specs.declared.stride.Stride.{Stride}
use Rattle.nest_loop.specs.Turn.{HoldsValue, HoldCounters}
use Rattle.pairtest_counter.specs.declared.level.EnclosingLoop.{EnclosingLoop}
use Rattle.pairtest_counter.specs.Levels.{Nesting, IsLevel}
use Rattle.pairtest_counter.proofs.Chains.{canonical_named}
use Rattle.nest_space.specs.declared.bounds.Value.{Value}
use Rattle.nest_space.specs.Space.{Turns, moved, counted, values_of, vectors}
use Rattle.nest_space.specs.Nests.{given, AreRunsOf}
use Rattle.nest_space.specs.Heads.{IsHeadOf}
use Rattle.nest_space.proofs.Walks.{values_are}
use Rattle.nest_space.proofs.Counted.{found_at}
use Rattle.nest_space.proofs.Places.{pair_found, never_empty}
use Rattle.deptest_witness.specs.Touching.{holding, FirstTurns, held}
use Rattle.law_turns.specs.Turns.{AreEntered}
use Rattle.law_turns.proofs.OneLoop.{run_value}
use Rattle.law_turns.proofs.Joining.{behind}
use Rattle.law_turns.proofs.Iterating.{nested, iterations_by}
use Rattle.law_independence.specs.ConflictLaws.{first_value, first_turns}
use Rattle.law_independence.proofs.Entered.{entered_loops}

-- the variables of the loops of a box have these values in a state, and no other variable has one
pub record IsAt (box : List Side) (values : List Value) (s : State) : Type 0 where
  pub counters : HoldCounters box (given values) s
  pub fresh : (y : Variable) → is_counter box y ≡ false → (more : List Value) → given (values ++ more) y ≡ given more y

-- outside of all loops
pub outside_at : (s : State) → IsAt [] [] s
outside_at s = record { counters = λ x c. absurd cc; fresh = λ y c more. refl }

-- a value of another variable
given_last : (values : List Value) (v : Value) (y : Variable) → (v.variable.0 == y) ≡ false → given (values ++ (v ∷ [])) y ≡ given values y
given_last [] v y e = ap (λ b. cond b (pos v.value) (pos 0)) e
given_last (w ∷ values) v y e = ap (λ (z : ℤ). cond (w.variable.0 == y) (pos w.value) z) (given_last values v y e)

-- two numbers that are not equal to a third alike
differs : (a b c : ℕ) → a ≡ b → (a == c) ≡ false → (c == b) ≡ false
differs a b c same e = go (c == b) refl
  where
    go : (t : Bool) → (c == b) ≡ t → t ≡ false
    go true f = absurd (eqb-false a c e (same ∙ sym (eqb-true c b f)))
    go false f = refl

-- ---- one loop more

module _ (box : List Side) (levels : List EnclosingLoop) (values : List Value) (st : State) (at : IsAt box values st) (h : Loop) (s : Side) (v : EnclosingLoop)
    (is : IsHeadOf box h v.canonical) (level : IsLevel box levels s v) (x : ℕ) (below : x < 2 ^ 64) where
  own : h.variable ≡ v.canonical.variable.0
  own = canonical_named box h.variable h.start h.test h.step v.canonical is.is

  named : s.variable.0 ≡ h.variable
  named = ap (λ (t : Side). t.variable.0) level.is ∙ sym own

  abbrev one : Value
  one = holding v.canonical x

  abbrev here : State
  here = at_value st h.variable x

  more_counters : HoldCounters (s ∷ box) (given (values ++ (one ∷ []))) here
  more_counters y c = by (s.variable.0 == y) refl
    where
      by : (b : Bool) → (s.variable.0 == y) ≡ b → HoldsValue (here.locals y) (given (values ++ (one ∷ [])) y)
      by true e =
          let same : h.variable ≡ y = sym named ∙ eqb-true s.variable.0 y e in
          subst (λ z. HoldsValue (here.locals z) (given (values ++ (one ∷ [])) z)) same
          (record {
            number = x;
            held = local_same st h.variable (Holds x);
            is = at.fresh h.variable is.other (one ∷ []) ∙ ap (λ b. cond b (pos x) (pos 0)) (eq-eqb v.canonical.variable.0 h.variable (sym own));
            below = below;
          })
      by false e =
          let counts : is_counter box y ≡ true = subst (λ b. cond b true (is_counter box y) ≡ true) e c in
          let other : (v.canonical.variable.0 == y) ≡ false = ap (λ z. z == y) (sym (named ∙ own)) ∙ e in
          let kept : here.locals y ≡ st.locals y = ap (λ b. cond b (Holds x) (st.locals y)) (differs s.variable.0 h.variable y named e) in
          subst (λ slot. HoldsValue slot (given (values ++ (one ∷ [])) y)) (sym kept) (subst (HoldsValue (st.locals y)) (sym (given_last values one y other)) (at.counters y counts))

  more_fresh : (y : Variable) → is_counter (s ∷ box) y ≡ false → (more : List Value) → given ((values ++ (one ∷ [])) ++ more) y ≡ given more y
  more_fresh y c more = by (s.variable.0 == y) refl
    where
      by : (b : Bool) → (s.variable.0 == y) ≡ b → given ((values ++ (one ∷ [])) ++ more) y ≡ given more y
      by true e = let no_more : true ≡ false = subst (λ b. cond b true (is_counter box y) ≡ false) e c in absurd cc
      by false e =
          let none : is_counter box y ≡ false = subst (λ b. cond b true (is_counter box y) ≡ false) e c in
          let other : (v.canonical.variable.0 == y) ≡ false = ap (λ z. z == y) (sym (named ∙ own)) ∙ e in
          ap (λ (vs : List Value). given vs y) (append_assoc values (one ∷ []) more) ∙ at.fresh y none (one ∷ more) ∙ ap (λ b. cond b (pos x) (given more y)) other

  pub one_more : IsAt (s ∷ box) (values ++ (one ∷ [])) here
  one_more = record { counters = more_counters; fresh = more_fresh }

  -- where the values are in the box, and the one more is one of the loop's numbers
  pub more_inside : IsInside box (given values) → IsHeld level.numbers (pos x) → IsInside (s ∷ box) (given (values ++ (one ∷ [])))
  more_inside inside held y = by (s.variable.0 == y) refl
    where
      by : (b : Bool) → (s.variable.0 == y) ≡ b → IsHeld (cond b s.interval (interval_at box y)) (given (values ++ (one ∷ [])) y)
      by true e =
          let same : h.variable ≡ y = sym named ∙ eqb-true s.variable.0 y e in
          let worth : given (values ++ (one ∷ [])) h.variable ≡ pos x = at.fresh h.variable is.other (one ∷ []) ∙ ap (λ b. cond b (pos x) (pos 0)) (eq-eqb v.canonical.variable.0 h.variable (sym own)) in
          let numbers : level.numbers ≡ s.interval = ap (λ (t : Side). t.interval) (sym level.is) in
          subst (λ z. IsHeld s.interval (given (values ++ (one ∷ [])) z)) same (subst (IsHeld s.interval) (sym worth) (subst (λ i. IsHeld i (pos x)) numbers held))
      by false e =
          let other : (v.canonical.variable.0 == y) ≡ false = ap (λ z. z == y) (sym (named ∙ own)) ∙ e in
          subst (IsHeld (interval_at box y)) (sym (given_last values one y other)) (inside y)

-- ---- an iteration of a nest

-- at a vector of loops that were entered, whose values are small
pub vector_at : (hs : List Loop) (before after : Nesting) (entered : AreEntered before hs after) (round : Variable → ℤ) (ts : List Turns) (k : ℕ) (values : List Value) (st : State) (vs : Vector)
    → AreRunsOf (entered_loops hs before after entered) round ts → slice_get (vectors ts) k ≡ Some vs → IsAt before.box values st
    → IsAt after.box (values ++ held (entered_loops hs before after entered) vs) (at_vector hs vs st)
vector_at [] before after entered round ts k values st vs runs e at = subst (λ (us : List Value). IsAt after.box us st) (sym (append-nil values)) (subst (λ (n : Nesting). IsAt n.box values st) entered at)
vector_at (h ∷ hs) before after (s, v, is, level, rest) round [] k values st vs runs e at = absurd runs
vector_at (h ∷ hs) before after (s, v, is, level, rest) round (t ∷ ts) k values st [] runs e at = absurd (never_empty (values_of t) (vectors ts) k e)
vector_at (h ∷ hs) before after (s, v, is, level, rest) round (t ∷ ts) k values st (x ∷ vs) runs e at =
    let p = pair_found (values_of t) (vectors ts) k x vs e in
    let found = found_at t p.outer x p.value in
    let below : x < 2 ^ 64 = (run_value v.canonical round t p.outer x runs.0 found.turn found.is).below in
    let more = one_more before.box before.levels values st at h s v is level x below in
    subst (λ (us : List Value). IsAt after.box us (at_vector hs vs (at_value st h.variable x))) (append_assoc values (holding v.canonical x ∷ []) (held (entered_loops hs (nested before s v) after rest) vs))
    (vector_at hs (nested before s v) after rest round ts p.inner (values ++ (holding v.canonical x ∷ [])) (at_value st h.variable x) vs runs.1 p.vector more)

-- ---- the first iteration of loops

first_of : (v : ℕ) (ws rest : List Vector) (w : Vector) → slice_get ws 0 ≡ Some w → slice_get (map (λ us. v ∷ us) ws ++ rest) 0 ≡ Some (v ∷ w)
first_of v [] rest w e = absurd (none-some w e)
first_of v (x ∷ ws) rest w e = ap (λ (u : Vector). Some (v ∷ u)) (same_Some x w e)

-- the vectors behind the first value
pub record AreFirst (inner : ℕ → Option (List Vector)) (v : ℕ) (us : List Vector) : Type 0 where
  pub vectors : List Vector
  pub are : inner v ≡ Some vectors
  pub first : (w : Vector) → slice_get vectors 0 ≡ Some w → slice_get us 0 ≡ Some (v ∷ w)

first_behind : (inner : ℕ → Option (List Vector)) (v : ℕ) (vs : List ℕ) (us : List Vector) → behind inner (v ∷ vs) ≡ Some us → AreFirst inner v us
first_behind inner v vs us e = go (inner v) refl (behind inner vs) e
  where
    go : (o : Option (List Vector)) → inner v ≡ o → (p : Option (List Vector)) → both (λ a b. a ++ b) (map_option (map (λ us. v ∷ us)) o) p ≡ Some us → AreFirst inner v us
    go None q p f = absurd (none-some us f)
    go (Some ws) q None f = absurd (none-some us f)
    go (Some ws) q (Some rest) f =
        record {
          vectors = ws;
          are = q;
          first = λ w g. ap (λ (xs : List Vector). slice_get xs 0) (sym (same_Some (map (λ us. v ∷ us) ws ++ rest) us f)) ∙ first_of v ws rest w g;
        }

first_counted : (inner : ℕ → Option (List Vector)) (s : Stride) (first n : ℕ) (us : List Vector) → 0 < n → behind inner (counted s first n) ≡ Some us → AreFirst inner first us
first_counted inner s first zero us some e = absurd (omega arith)
first_counted inner s first (suc n) us some e = first_behind inner first (counted s (moved s.direction first s.by) n) us e

first_of_counted : (s : Stride) (first n : ℕ) → 0 < n → first_value (counted s first n) ≡ Some first
first_of_counted s first zero some = absurd (omega arith)
first_of_counted s first (suc n) some = refl

small : (z : ℤ) (n : ℕ) → z ≡ pos n → z ≤ℤ pos (2 ^ 32) → n < 2 ^ 64
small z n e le = omega (arith, ints)

-- the first iteration of loops that were entered, at the first turn of each, and the values of their variables there
pub record IsFirstAt (hs : List Loop) (box : List Side) (st : State) (us : List Vector) (there : List Value) : Type 0 where
  pub turn : Vector
  pub first : slice_get us 0 ≡ Some turn
  pub begins : first_turns hs st ≡ Some (at_vector hs turn st)
  pub at : IsAt box there (at_vector hs turn st)

pub first_there : (hs : List Loop) (before after : Nesting) (entered : AreEntered before hs after) (values there : List Value) (st : State) (us : List Vector)
    → FirstTurns (entered_loops hs before after entered) values there → IsAt before.box values st → iterations hs st ≡ Some us → IsFirstAt hs after.box st us there
first_there [] before after entered values there st us same at e =
    record {
      turn = [];
      first = ap (λ (ws : List Vector). slice_get ws 0) (sym (same_Some ([] ∷ []) us e));
      begins = refl;
      at = subst (λ (n : Nesting). IsAt n.box there st) entered (subst (λ (vs : List Value). IsAt before.box vs st) (sym same) at);
    }
first_there (h ∷ hs) before after (s, v, is, level, rest) values there st us (t, run, some, further) at e =
    let l = v.canonical in
    let below : t.first < 2 ^ 64 = small (value l.start (given values)) t.first run.first run.stays.start.below in
    let more = one_more before.box before.levels values st at h s v is level t.first below in
    let vals = values_are before.box (given values) st at.counters h l is t run in
    let own = first_counted (λ x. iterations hs (at_value st h.variable x)) t.stride t.first t.count us some (sym (iterations_by h hs st (values_of t) vals) ∙ e) in
    let inner = first_there hs (nested before s v) after rest (values ++ (holding l t.first ∷ [])) there (at_value st h.variable t.first) own.vectors further more own.are in
    record {
      turn = t.first ∷ inner.turn;
      first = own.first inner.turn inner.first;
      begins =
          ap (λ (o : Option (List ℕ)). option_and_then (λ x. first_turns hs (at_value st h.variable x)) (option_and_then first_value o)) vals
          ∙ ap (λ (o : Option ℕ). option_and_then (λ x. first_turns hs (at_value st h.variable x)) o) (first_of_counted t.stride t.first t.count some)
          ∙ inner.begins;
      at = inner.at;
    }
