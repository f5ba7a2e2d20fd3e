-- A turn of loops with constant bounds is one of their iterations.
use Rattle.std.specs.Prelude.{ℕ, zero, suc, Bool, true, false, ◌≡◌, ◌==◌, ◌<◌, ◌*◌, ◌++◌, ℤ, pos, List, [], ◌∷◌, map, Contains, Option, Some, None, slice_get}
use Rattle.std.proofs.Common.{refl, sym, ap, ◌∙◌, subst, cond, arith}
use Rattle.std.proofs.lemmas.Bool.{eqb-true, eqb-false}
use Rattle.std.proofs.lemmas.Int.{ints}
use Rattle.std.proofs.lemmas.Option.{none-some, same_Some}
use Rattle.semantics.specs.Tree.{Variable}
use Rattle.semantics.specs.Meaning.State.{State}
use Rattle.semantics.specs.Meaning.Value.{both, map_option}
use Rattle.semantics.specs.Loops.Nest.{Loop, Vector, at_value, at_vector, iterations}
use Rattle.affine.specs.declared.interval.Interval.{Interval}
use Rattle.affine.specs.declared.interval.Side.{Side}
use Rattle.affine.specs.Affine.{value, with_value}
use Rattle.affine.specs.Box.{interval_at, only_zero, Holds, IsInside}
use Rattle.affine.proofs.Values.{with_value-same, with_value-other}
use Rattle.affine_expr.specs.Forms.{is_counter}
use Rattle.nest_loop.specs.Sides.{IsSide, exact, IsBefore, after_steps, end_of}
use Rattle.nest_loop.specs.Loops.{inside}
use Rattle.nest_loop.specs.Turn.{AtTurn, HoldsValue}
use Rattle.nest_loop.proofs.Numbers.{number_value}
use Rattle.pairtest_counter.proofs.Chains.{canonical_named}
use Rattle.nest_space.specs.Space.{moved, values_of}
use Rattle.nest_space.proofs.Counted.{value_there}
use Rattle.nest.specs.Turns.{ConstantLoop, variable_of, numbers_of, box_of, AreApart, AreTaken}
use Rattle.nest.proofs.Exact.{refusals_have_turns}
use Rattle.law_turns.proofs.OneLoop.{run_value}
use Rattle.law_turns.proofs.Joining.{behind, is_member, contains_first}
use Rattle.law_turns.proofs.Iterating.{iterations_by}
use Rattle.law_ranges.specs.Laws.{AreConstant, LeavingHasATurn}
use Rattle.law_ranges.proofs.Turning.{at_start, run, values_are_these, turn_at}

-- no variable of one loop is that of another
apart : (hs : List Loop) (before after : List ConstantLoop) → AreConstant before hs after → AreApart before → AreApart after
apart [] before after e h = subst AreApart e h
apart (h ∷ hs) before after (c, is, stays, rest) g =
    apart hs (c ∷ before) after rest (subst (λ (x : Variable). is_counter (box_of before) x ≡ false) (canonical_named (box_of before) h.variable h.start h.test h.step c.loop is.is) is.other, g)

-- the values of the outer loops
taken_outer : (hs : List Loop) (before after : List ConstantLoop) (v : Variable → ℤ) → AreConstant before hs after → AreTaken after v → AreTaken before v
taken_outer [] before after v e h = subst (λ (cs : List ConstantLoop). AreTaken cs v) (sym e) h
taken_outer (h ∷ hs) before after v (c, is, stays, rest) g = (taken_outer hs (c ∷ before) after v rest g).1

-- where all vectors are there, those behind each value are
record AreBoth (o p : Option (List Vector)) : Type 0 where
  first : List Vector
  second : List Vector
  first_is : o ≡ Some first
  second_is : p ≡ Some second

both_there : (g : List Vector → List Vector) (o p : Option (List Vector)) (us : List Vector) → both (λ a b. a ++ b) (map_option g o) p ≡ Some us → AreBoth o p
both_there g None p us e = absurd (none-some us e)
both_there g (Some a) None us e = absurd (none-some us e)
both_there g (Some a) (Some b) us e = record { first = a; second = b; first_is = refl; second_is = refl }

inner_there : (inner : ℕ → Option (List Vector)) (vs : List ℕ) (us : List Vector) (k v : ℕ) → behind inner vs ≡ Some us → slice_get vs k ≡ Some v → (ws : List Vector) × (inner v ≡ Some ws)
inner_there inner [] us k v e at = absurd (none-some v at)
inner_there inner (x ∷ vs) us zero v e at =
    let b = both_there (map (λ us. x ∷ us)) (inner x) (behind inner vs) us e in
    (b.first, ap inner (sym (same_Some x v at)) ∙ b.first_is)
inner_there inner (x ∷ vs) us (suc k) v e at =
    let b = both_there (map (λ us. x ∷ us)) (inner x) (behind inner vs) us e in
    inner_there inner vs b.second k v b.second_is at

-- an iteration at which the loops' variables have these values
record Reached (hs : List Loop) (after : List ConstantLoop) (v : Variable → ℤ) (s : State) (us : List Vector) : Type 0 where
  u : Vector
  among : Contains us u
  values : Variable → ℤ
  turn : AtTurn (box_of after) values (at_vector hs u s)
  same : (y : Variable) → is_counter (box_of after) y ≡ true → values y ≡ v y

agree_more : (c : ConstantLoop) (cs : List ConstantLoop) (values v : Variable → ℤ) (z : ℤ) → v (variable_of c) ≡ z → ((y : Variable) → is_counter (box_of cs) y ≡ true → values y ≡ v y) → (y : Variable)
    → is_counter (box_of (c ∷ cs)) y ≡ true → with_value values (variable_of c) z y ≡ v y
agree_more c cs values v z e agree y counts = by (variable_of c == y) refl counts
  where
    by : (b : Bool) → (variable_of c == y) ≡ b → cond b true (is_counter (box_of cs) y) ≡ true → with_value values (variable_of c) z y ≡ v y
    by true p q =
        let same = eqb-true (variable_of c) y p in
        with_value-same values (variable_of c) z y (sym same) ∙ sym e ∙ ap v same
    by false p q = with_value-other values (variable_of c) z y (λ r. eqb-false (variable_of c) y p (sym r)) ∙ agree y q

reach : (hs : List Loop) (before after : List ConstantLoop) (values v : Variable → ℤ) (s : State) (us : List Vector) → AreConstant before hs after → AtTurn (box_of before) values s
    → ((y : Variable) → is_counter (box_of before) y ≡ true → values y ≡ v y) → AreTaken after v → iterations hs s ≡ Some us → Reached hs after v s us
reach [] before after values v s us e turn agree taken is =
    record {
      u = [];
      among = subst (λ (ws : List Vector). Contains ws []) (same_Some ([] ∷ []) us is) (contains_first [] []);
      values = values;
      turn = subst (λ (cs : List ConstantLoop). AtTurn (box_of cs) values s) e turn;
      same = subst (λ (cs : List ConstantLoop). (y : Variable) → is_counter (box_of cs) y ≡ true → values y ≡ v y) e agree;
    }
reach (h ∷ hs) before after values v s us (c, is, stays, rest) turn agree taken e =
    let box = box_of before in
    let l = c.loop in
    let named : h.variable ≡ l.variable.0 = canonical_named box h.variable h.start h.test h.step l is.is in
    let numbers : IsSide box l (numbers_of c) = exact c.numbers c.counted in
    let t = run box values s turn h l (numbers_of c) is stays numbers in
    let own = (taken_outer hs (c ∷ before) after v rest taken).0 in
    let k = own.0 in
    let start = number_value l.start values c.numbers.start in
    let end = number_value (end_of l) values c.numbers.limit in
    let within : IsBefore l.stride.direction (after_steps l.stride (value l.start values) k) (value (end_of l) values) =
    subst (λ (z : ℤ). IsBefore l.stride.direction (after_steps l.stride z k) (value (end_of l) values)) (sym start)
    (subst (λ (z : ℤ). IsBefore l.stride.direction (after_steps l.stride l.start.constant k) z) (sym end) ((c.counted.counts k).0 own.1)) in
    let less : k < t.0.count = (t.1.count.counts k).1 within in
    let x : ℕ = moved t.0.stride.direction t.0.first (t.0.stride.by * k) in
    let found = value_there t.0.stride t.0.first t.0.count k less in
    let reached = run_value l values t.0 k x t.1 less refl in
    let is_x : v (variable_of c) ≡ pos x = own.2 ∙ ap (λ (z : ℤ). after_steps l.stride z k) (sym start) ∙ sym reached.is in
    let inner_turn = subst (λ (y : Variable). AtTurn (inside box y (numbers_of c)) (with_value values y (pos x)) (at_value s h.variable x)) named
    (turn_at box values s turn h l (numbers_of c) is stays numbers k x found) in
    let all = sym (iterations_by h hs s (values_of t.0) (values_are_these box values s turn h l (numbers_of c) is stays numbers)) ∙ e in
    let inner = inner_there (λ y. iterations hs (at_value s h.variable y)) (values_of t.0) us k x all found in
    let r = reach hs (c ∷ before) after (with_value values (variable_of c) (pos x)) v (at_value s h.variable x) inner.0 rest inner_turn (agree_more c before values v (pos x) is_x agree) taken inner.1 in
    record {
      u = x ∷ r.u;
      among = is_member (λ y. iterations hs (at_value s h.variable y)) (values_of t.0) us k x inner.0 r.u all found inner.1 r.among;
      values = r.values;
      turn = r.turn;
      same = r.same;
    }

-- a variable of no loop is 0
zero_there : (box : List Side) (y : Variable) → is_counter box y ≡ false → interval_at box y ≡ only_zero
zero_there [] y e = refl
zero_there (s ∷ ss) y e = by (λ q. zero_there ss y q) (s.variable.0 == y) refl e
  where
    by : (is_counter ss y ≡ false → interval_at ss y ≡ only_zero) → (b : Bool) → (s.variable.0 == y) ≡ b → cond b true (is_counter ss y) ≡ false
        → cond (s.variable.0 == y) s.interval (interval_at ss y) ≡ only_zero
    by others true p q = absurd (cc q)
    by others false p q = ap (λ (b : Bool). cond b s.interval (interval_at ss y)) p ∙ others q

is_zero : (z : ℤ) → z ≡ pos 0 → Holds only_zero z
is_zero z e = record { above = omega (arith, ints); below = omega (arith, ints) }

-- values of the loops' variables, and 0 elsewhere
inside_there : (box : List Side) (w v : Variable → ℤ) → IsInside box w → ((y : Variable) → is_counter box y ≡ true → w y ≡ v y) → ((y : Variable) → is_counter box y ≡ false → v y ≡ pos 0) → IsInside box v
inside_there box w v h same others y = by (is_counter box y) refl
  where
    by : (b : Bool) → is_counter box y ≡ b → Holds (interval_at box y) (v y)
    by true e = subst (Holds (interval_at box y)) (same y e) (h y)
    by false e = subst (λ (i : Interval). Holds i (v y)) (sym (zero_there box y e)) (is_zero (v y) (others y e))

pub leaving_has_a_turn : LeavingHasATurn
leaving_has_a_turn hs cs n f s turns constant (values, within, out) e =
    let left = refusals_have_turns cs n f (apart hs [] cs constant tt) (λ stays. out (stays values within)) in
    let r = reach hs [] cs (λ x. pos 0) left.values s turns constant (at_start s) (λ y c. absurd (cc c)) left.turn.taken e in (
      r.u,
      r.among,
      record {
        counters = left.values;
        turn = record {
          inside = inside_there (box_of cs) r.values left.values r.turn.inside r.same left.turn.others;
          counters = λ y c. subst (HoldsValue ((at_vector hs r.u s).locals y)) (r.same y c) (r.turn.counters y c);
        };
        leaves = left.leaves;
      },
    )
