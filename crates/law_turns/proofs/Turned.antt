-- Each turn of loops that were entered is one of their iterations.
use Rattle.std.specs.Prelude.{ℕ, suc, ◌≡◌, ◌≤◌, ◌*◌, ℤ, pos, List, [], ◌∷◌, length, Contains, Option, Some, None, IsSome, slice_get, ◌≤ℤ◌}
use Rattle.std.proofs.Common.{refl, sym, ap, ◌∙◌, subst, arith, ⊎_elim}
use Rattle.std.proofs.lemmas.Bool.{cases_order}
use Rattle.std.proofs.lemmas.Option.{same_Some}
use Rattle.semantics.specs.Tree.{Variable}
use Rattle.semantics.specs.Meaning.State.{State}
use Rattle.semantics.specs.Loops.Nest.{Loop, Vector, at_value, iterations}
use Rattle.affine.specs.Affine.{value}
use Rattle.nest_loop.specs.Sides.{end_of}
use Rattle.nest_loop.specs.Most.{distance}
use Rattle.nest_loop.specs.Turn.{AtTurn}
use Rattle.nest_loop.proofs.Turning.{within_of}
use Rattle.pairtest_counter.specs.declared.level.EnclosingLoop.{EnclosingLoop}
use Rattle.pairtest_counter.specs.Levels.{Nesting, values_at}
use Rattle.nest_space.specs.Space.{Turns, moved, values_of}
use Rattle.nest_space.specs.Nests.{IsRunOf}
use Rattle.nest_space.proofs.Counted.{value_there}
use Rattle.law_turns.specs.Turns.{AreEntered, IsWithin, IsTurnInside, IsIteration}
use Rattle.law_turns.proofs.Standing.{Agree, values_same, whole_same, turn_same, few_same, step_of, steps_own}
use Rattle.law_turns.proofs.Joining.{is_member, contains_first}
use Rattle.law_turns.proofs.Iterating.{nested, StandsAt, Iterates, iterations_by, run_is, loop_values_are, steps_with, turn_at, value_at, variable_counts, outer_steps, one_outside, iterations_there}
use Rattle.law_turns.proofs.Entered.{inside_before, turn_joined}

-- no loop at all
turn_of_none : (n : ℕ) (before after : Nesting) (outer steps : ℕ → ℤ) (st : State) (us : List Vector) → before ≡ after → StandsAt n before outer st → iterations [] st ≡ Some us
    → Agree (length before.levels) steps outer → (u : Vector) × Contains us u × Iterates n before after [] outer st u steps
turn_of_none n before after outer steps st us same stands e agree =
    let others : Agree (length before.levels) outer steps = λ j lt. sym (agree j lt) in (
      [],
      subst (λ (ws : List Vector). Contains ws []) (same_Some ([] ∷ []) us e) (contains_first [] []),
      subst (λ (m : Nesting). Iterates n before m [] outer st [] steps) same
          (record {
            outer_same = agree;
            stands = record {
              turn = turn_same n before.levels outer steps others stands.turn;
              few = few_same n before.levels outer steps others stands.few;
              at = subst (λ (f : Variable → ℤ). AtTurn before.box f st) (values_same before.levels outer steps others) stands.at;
            };
            values = refl;
          }),
    )

-- as many steps as a turn has made are made in the run, too
in_run : (v : EnclosingLoop) (values : Variable → ℤ) (t : Turns) (k : ℕ) → IsRunOf v.canonical values t → pos (v.canonical.stride.by * k) ≤ℤ distance v.canonical values
    → slice_get (values_of t) k ≡ Some (moved t.stride.direction t.first (t.stride.by * k))
in_run v values t k run within =
    let l = v.canonical in
    value_there t.stride t.first t.count k ((within_of l.stride (value l.start values) (value (end_of l) values) t.count run.count k).1 within)

there_is : {A : Type 0} (o : Option A) → IsSome o → (a : A) × (o ≡ Some a)
there_is None h = absurd cc
there_is (Some a) h = (a, refl)

-- the steps of one loop more
pub agree_with : (n : ℕ) (a b : ℕ → ℤ) → Agree n a b → a n ≡ b n → Agree (suc n) a b
agree_with n a b same own j lt =
    ⊎_elim (λ e. ap a e ∙ own ∙ sym (ap b e)) (λ o. ⊎_elim (λ less. same j less) (λ more. absurd (omega arith)) o) (cases_order j n)

-- the steps of the loops up to one
agree_further : (n k : ℕ) (steps middle : ℕ → ℤ) → Agree n steps middle → steps n ≡ pos k → middle n ≡ pos k → Agree (suc n) steps middle
agree_further n k steps middle same p q = agree_with n steps middle same (p ∙ sym q)

pub turn_iteration : (n : ℕ) (hs : List Loop) (before after : Nesting) (outer steps : ℕ → ℤ) (st : State) (us : List Vector) → n ≤ length before.levels → AreEntered before hs after
    → StandsAt n before outer st → iterations hs st ≡ Some us → Agree (length before.levels) steps outer → IsTurnInside n after.levels steps
    → (u : Vector) × Contains us u × Iterates n before after hs outer st u steps
turn_iteration n [] before after outer steps st us le entered stands e agree turn = turn_of_none n before after outer steps st us entered stands e agree
turn_iteration n (h ∷ hs) before after outer steps st us le (s, v, is, level, rest) stands e agree turn =
    let values = loop_values_are n before outer st stands h s v is level in
    let run = run_is n before outer st stands h s v is level in
    let step = step_of v before.levels steps ((inside_before (IsWithin steps) n hs (nested before s v) after rest turn).0 le) in
    let k = step.number in
    let within : pos (v.canonical.stride.by * k) ≤ℤ distance v.canonical (values_at before.levels outer) =
    subst (λ (f : Variable → ℤ). pos (v.canonical.stride.by * k) ≤ℤ distance v.canonical f) (values_same before.levels steps outer agree) step.within in
    let x : ℕ = moved run.0.stride.direction run.0.first (run.0.stride.by * k) in
    let found : slice_get (values_of run.0) k ≡ Some x = in_run v (values_at before.levels outer) run.0 k run.1 within in
    let middle = steps_with n before outer st stands h s v is level k in
    let kept = outer_steps n before outer st stands h s v is level k x found in
    let stands' = turn_at n before outer st stands h s v is level k x found in
    let inner = there_is (iterations hs (at_value st h.variable x)) (iterations_there n hs (nested before s v) after middle (at_value st h.variable x) rest stands') in
    let further : n ≤ length (v ∷ before.levels) = omega arith in
    let it = turn_iteration n hs (nested before s v) after middle steps (at_value st h.variable x) inner.0 further rest stands' inner.1
    (agree_further (length before.levels) k steps middle (λ j lt. agree j lt ∙ sym (kept j lt)) step.is (steps_own n before.box before.levels outer st stands h s v is level k)) turn in (
      x ∷ it.0,
      is_member (λ y. iterations hs (at_value st h.variable y)) (values_of run.0) us k x inner.0 it.0 (sym (iterations_by h hs st (values_of run.0) values) ∙ e) found inner.1 it.1,
      one_outside n before after h hs s v outer middle st x it.0 steps kept
          (value_at n before outer st stands h s v is level k x found) (variable_counts n before outer st stands h s v is level k x found) rest it.2,
    )

pub is_iteration : (before after : Nesting) (hs : List Loop) (outer : ℕ → ℤ) (s : State) (u : Vector) (steps : ℕ → ℤ) → AreEntered before hs after
    → Iterates (length before.levels) before after hs outer s u steps → IsIteration before after hs outer s u steps
is_iteration before after hs outer s u steps entered it =
    record {
      outer_same = it.outer_same;
      turn = it.stands.turn;
      whole = λ turn. turn_joined hs before after steps entered (whole_same before.levels outer steps (λ j lt. sym (it.outer_same j lt)) turn) it.stands.turn;
      few = it.stands.few;
      at = it.stands.at;
      values = it.values;
    }
