-- The iterations of loops that were entered are their turns.
use Rattle.std.specs.Prelude.{ℕ, Bool, true, false, ◌≡◌, ◌<◌, ◌==◌, ℤ, pos, List, [], ◌∷◌, length, map, Contains, Option, Some, IsSome, slice_get, option_and_then}
use Rattle.std.proofs.Common.{refl, sym, ap, ◌∙◌, subst, cond, arith}
use Rattle.std.proofs.lemmas.Option.{same_Some}
use Rattle.semantics.specs.Tree.{Variable}
use Rattle.semantics.specs.Meaning.State.{State}
use Rattle.semantics.specs.Meaning.Value.{map_option}
use Rattle.semantics.specs.Loops.Nest.{Loop, Vector, at_value, concat_options, iterations, loop_values, at_vector}
use Rattle.affine.specs.declared.interval.Side.{Side}
use Rattle.affine.specs.Affine.{value}
use Rattle.affine.proofs.Values.{with_value-other}
use Rattle.affine_expr.specs.Forms.{is_counter}
use Rattle.pairtest_counter.specs.declared.level.EnclosingLoop.{EnclosingLoop}
use Rattle.pairtest_counter.specs.Levels.{Nesting, IsLevel, values_at}
use Rattle.pairtest_counter.proofs.Chains.{canonical_named}
use Rattle.nest_space.specs.Space.{Turns, values_of}
use Rattle.nest_space.specs.Nests.{IsRunOf}
use Rattle.nest_space.specs.Heads.{IsHeadOf}
use Rattle.nest_space.proofs.Walks.{values_are}
use Rattle.nest_space.proofs.Counted.{IsAt, found_at}
use Rattle.law_turns.specs.Turns.{AreEntered, IsWithin, IsCounter}
use Rattle.nest_loop.specs.Turn.{AtTurn}
use Rattle.law_turns.proofs.OneLoop.{run_there, run_value, same_steps}
use Rattle.law_turns.proofs.Standing.{Standing, values_same, none_inside, place_at, with_steps, steps_agree, inner_stands, own_value, own_counts}
use Rattle.law_turns.proofs.Joining.{member, all_there, behind, IsDistinct, all_distinct, AreDifferent, different_by, contains_cases, contains_none}

-- inside one loop more
abbrev pub nested : Nesting → Side → EnclosingLoop → Nesting
nested n s v = record { box = s ∷ n.box; levels = v ∷ n.levels }

-- the loops inside the outermost n are at a turn, and the variables of all have its values
abbrev pub StandsAt : ℕ → Nesting → (ℕ → ℤ) → State → Type 0
StandsAt n nesting steps s = Standing n nesting.box nesting.levels steps s

-- an iteration, where the loops inside the outermost n are at a turn
pub record Iterates (n : ℕ) (before after : Nesting) (hs : List Loop) (outer : ℕ → ℤ) (s : State) (u : Vector) (steps : ℕ → ℤ) : Type 0 where
  pub outer_same : (j : ℕ) → j < length before.levels → steps j ≡ outer j
  pub stands : StandsAt n after steps (at_vector hs u s)
  pub values : map pos u ≡ map (λ h. values_at after.levels steps h.variable) hs

-- loops inside those of a variable leave its value
pub values_kept : (hs : List Loop) (n after : Nesting) (steps : ℕ → ℤ) (y : Variable) → AreEntered n hs after → is_counter n.box y ≡ true → values_at after.levels steps y ≡ values_at n.levels steps y
values_kept [] n after steps y entered counts = ap (λ (m : Nesting). values_at m.levels steps y) (sym entered)
values_kept (h ∷ hs) n after steps y (s, v, is, level, rest) counts =
    values_kept hs (nested n s v) after steps y rest (further (s.variable.0 == y))
    ∙ with_value-other (values_at n.levels steps) v.canonical.variable.0 (place_at v n.levels steps) y other
  where
    further : (b : Bool) → cond b true (is_counter n.box y) ≡ true
    further true = refl
    further false = counts

    other : y ≡ v.canonical.variable.0 → ⊥
    other e =
        let named = canonical_named n.box h.variable h.start h.test h.step v.canonical is.is in
        let none : is_counter n.box y ≡ false = ap (is_counter n.box) (e ∙ sym named) ∙ is.other in
        absurd cc

-- the iterations behind each value of the outermost loop
pub iterations_by : (h : Loop) (hs : List Loop) (s : State) (vs : List ℕ) → loop_values h s ≡ Some vs → iterations (h ∷ hs) s ≡ behind (λ v. iterations hs (at_value s h.variable v)) vs
iterations_by h hs s vs e = ap (option_and_then (λ vs. concat_options (map (λ v. map_option (map (λ us. v ∷ us)) (iterations hs (at_value s h.variable v))) vs))) e

-- one loop more round others: its run, and the values of its variable in the state
module _ (few : ℕ) (n : Nesting) (steps : ℕ → ℤ) (st : State) (stands : StandsAt few n steps st) (h : Loop) (s : Side) (v : EnclosingLoop)
    (is : IsHeadOf n.box h v.canonical) (level : IsLevel n.box n.levels s v) where
  abbrev outer : Variable → ℤ
  outer = values_at n.levels steps

  pub run_is : (t : Turns) × IsRunOf v.canonical outer t
  run_is = run_there v.canonical outer (level.stays outer stands.at.inside) level.by_one

  pub loop_values_are : loop_values h st ≡ Some (values_of run_is.0)
  loop_values_are = values_are n.box outer st stands.at.counters h v.canonical is run_is.0 run_is.1

  -- the steps with which a value is reached
  abbrev pub steps_with : ℕ → ℕ → ℤ
  steps_with k = with_steps few n.box n.levels steps st stands h s v is level k

  -- a value of the run, and the turn at it
  module _ (k x : ℕ) (found : slice_get (values_of run_is.0) k ≡ Some x) where
    at : IsAt run_is.0 k x
    at = found_at run_is.0 k x found

    pub turn_at : StandsAt few (nested n s v) (steps_with k) (at_value st h.variable x)
    turn_at = inner_stands few n.box n.levels steps st stands h s v is level run_is.0 run_is.1 k x at.turn at.is

    pub value_at : values_at (nested n s v).levels (steps_with k) h.variable ≡ pos x
    value_at = own_value few n.box n.levels steps st stands h s v is level run_is.0 run_is.1 k x at.turn at.is

    pub variable_counts : is_counter (nested n s v).box h.variable ≡ true
    variable_counts = own_counts few n.box n.levels steps st stands h s v is level run_is.0 run_is.1 k x at.turn at.is

    pub outer_steps : (j : ℕ) → j < length n.levels → steps_with k j ≡ steps j
    outer_steps j lt = steps_agree few n.box n.levels steps st stands h s v is level k j lt

-- no loop at all has one iteration
iteration_of_none : (n : ℕ) (before after : Nesting) (outer : ℕ → ℤ) (st : State) (us : List Vector) (u : Vector) → before ≡ after → StandsAt n before outer st
    → iterations [] st ≡ Some us → Contains us u → Iterates n before after [] outer st u outer
iteration_of_none n before after outer st us u same stands e among =
    contains_cases [] u []
    (λ (none : [] ≡ u). subst (λ (w : Vector). Iterates n before after [] outer st w outer) none
    (subst (λ (m : Nesting). Iterates n before m [] outer st [] outer) same (record { outer_same = λ j lt. refl; stands = stands; values = refl })))
    (λ (c : Contains [] u). absurd (contains_none u c))
    (subst (λ (ws : List Vector). Contains ws u) (sym (same_Some ([] ∷ []) us e)) among)

-- an iteration of the loops inside one more, and of all
pub one_outside : (n : ℕ) (before after : Nesting) (h : Loop) (hs : List Loop) (s : Side) (v : EnclosingLoop) (outer middle : ℕ → ℤ) (st : State) (x : ℕ) (w : Vector) (steps : ℕ → ℤ)
    → ((j : ℕ) → j < length before.levels → middle j ≡ outer j) → values_at (v ∷ before.levels) middle h.variable ≡ pos x → is_counter (s ∷ before.box) h.variable ≡ true
    → AreEntered (nested before s v) hs after → Iterates n (nested before s v) after hs middle (at_value st h.variable x) w steps → Iterates n before after (h ∷ hs) outer st (x ∷ w) steps
one_outside n before after h hs s v outer middle st x w steps agree value counts entered it =
    let own : values_at after.levels steps h.variable ≡ pos x =
    values_kept hs (nested before s v) after steps h.variable entered counts
    ∙ ap (λ (f : Variable → ℤ). f h.variable) (values_same (v ∷ before.levels) steps middle it.outer_same) ∙ value in
    record {
      outer_same = λ j lt. it.outer_same j (omega arith) ∙ agree j lt;
      stands = it.stands;
      values = ap (λ (z : ℤ). z ∷ map pos w) (sym own) ∙ ap (λ (zs : List ℤ). values_at after.levels steps h.variable ∷ zs) it.values;
    }

-- each iteration is a turn
pub iteration_turn : (n : ℕ) (hs : List Loop) (before after : Nesting) (outer : ℕ → ℤ) (st : State) (us : List Vector) (u : Vector) → AreEntered before hs after
    → StandsAt n before outer st → iterations hs st ≡ Some us → Contains us u → (steps : ℕ → ℤ) × Iterates n before after hs outer st u steps
iteration_turn n [] before after outer st us u entered stands e among = (outer, iteration_of_none n before after outer st us u entered stands e among)
iteration_turn n (h ∷ hs) before after outer st us u (s, v, is, level, rest) stands e among =
    let values = loop_values_are n before outer st stands h s v is level in
    let run = run_is n before outer st stands h s v is level in
    let b = member (λ x. iterations hs (at_value st h.variable x)) (values_of run.0) us u (sym (iterations_by h hs st (values_of run.0) values) ∙ e) among in
    let middle = steps_with n before outer st stands h s v is level b.place in
    let found = iteration_turn n hs (nested before s v) after middle (at_value st h.variable b.value) b.vectors b.rest rest
    (turn_at n before outer st stands h s v is level b.place b.value b.at) b.are b.among in (
      found.0,
      subst (λ (w : Vector). Iterates n before after (h ∷ hs) outer st w found.0) (sym b.is)
          (one_outside n before after h hs s v outer middle st b.value b.rest found.0 (outer_steps n before outer st stands h s v is level b.place b.value b.at)
          (value_at n before outer st stands h s v is level b.place b.value b.at) (variable_counts n before outer st stands h s v is level b.place b.value b.at) rest found.1),
    )

-- the iterations are there
pub iterations_there : (n : ℕ) (hs : List Loop) (before after : Nesting) (outer : ℕ → ℤ) (st : State) → AreEntered before hs after → StandsAt n before outer st → IsSome (iterations hs st)
iterations_there n [] before after outer st entered stands = refl
iterations_there n (h ∷ hs) before after outer st (s, v, is, level, rest) stands =
    let values = loop_values_are n before outer st stands h s v is level in
    let run = run_is n before outer st stands h s v is level in
    subst (λ (o : Option (List Vector)). IsSome o) (sym (iterations_by h hs st (values_of run.0) values))
    (all_there (λ x. iterations hs (at_value st h.variable x)) (values_of run.0)
    (λ k x found. iterations_there n hs (nested before s v) after (steps_with n before outer st stands h s v is level k) (at_value st h.variable x) rest
    (turn_at n before outer st stands h s v is level k x found)))

-- the values of a run are different
run_differs : (v : EnclosingLoop) (outer : Variable → ℤ) (t : Turns) → IsRunOf v.canonical outer t → AreDifferent (values_of t)
run_differs v outer t run =
    different_by (values_of t)
    (λ j k x p q.
    let a = found_at t j x p in
    let b = found_at t k x q in
    let l = v.canonical in
    same_steps l.stride.direction l.stride.by j k (value l.start outer) run.least (sym (run_value l outer t j x run a.turn a.is).is ∙ (run_value l outer t k x run b.turn b.is).is))

-- no iteration stands twice
pub iterations_distinct : (n : ℕ) (hs : List Loop) (before after : Nesting) (outer : ℕ → ℤ) (st : State) (us : List Vector) → AreEntered before hs after
    → StandsAt n before outer st → iterations hs st ≡ Some us → IsDistinct us
iterations_distinct n [] before after outer st us entered stands e = subst (λ (ws : List Vector). IsDistinct ws) (same_Some ([] ∷ []) us e) (contains_none [], tt)
iterations_distinct n (h ∷ hs) before after outer st us (s, v, is, level, rest) stands e =
    let values = loop_values_are n before outer st stands h s v is level in
    let run = run_is n before outer st stands h s v is level in
    all_distinct (λ x. iterations hs (at_value st h.variable x)) (values_of run.0) us (sym (iterations_by h hs st (values_of run.0) values) ∙ e)
    (run_differs v (values_at before.levels outer) run.0 run.1)
    (λ k x ws found here. iterations_distinct n hs (nested before s v) after (steps_with n before outer st stands h s v is level k) (at_value st h.variable x) ws rest
    (turn_at n before outer st stands h s v is level k x found) here)

-- where all the loops are outer ones
pub outer_stands : (n : Nesting) (outer : ℕ → ℤ) (s : State) → AtTurn n.box (values_at n.levels outer) s → StandsAt (length n.levels) n outer s
outer_stands n outer s at =
    record {
      turn = none_inside (IsWithin outer) (length n.levels) n.levels (omega arith);
      few = none_inside (λ v vs. IsCounter v.most (outer (length vs))) (length n.levels) n.levels (omega arith);
      at = at;
    }
