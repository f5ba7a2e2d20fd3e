-- A turn with a counted loop in it does what its instructions do.
use Rattle.std.proofs.Common.{◌≡◌, ℕ, ◌+◌, ◌*◌, ◌^◌, ◌<◌, ◌≤◌, true, false, List, ◌∷◌, ◌++◌, refl, sym, ap, ◌∙◌, subst, arith}
use Rattle.std.specs.Prelude.{slice_index, not, ◌==◌, ◌&&◌}
use Rattle.std.proofs.Math.Nat.{mod-lt}
use Rattle.std.proofs.lemmas.Bool.{or_parts}
use Rattle.std.proofs.lemmas.List.Folds.{list_any-append}
use Rattle.semantics.specs.Meaning.Runs.{greatest_trip_count}
use Rattle.lower_machine.specs.declared.term.Register.{Register}
use Rattle.lower_machine.specs.Machine.{Machine, machine, running, Running}
use Rattle.lower_op.specs.declared.op.Op.{Op}
use Rattle.lower_op.specs.declared.op.Op.TheVariants.{Constant}
use Rattle.lower_op.specs.Steps.{put, steps}
use Rattle.law_lanes.specs.Reading.{writes, is_written}
use Rattle.law_lanes.specs.Lanes.{turns}
use Rattle.law_lanes.proofs.Lanes.{steps_kept, steps_length}
use Rattle.law_unrolled.specs.Unrolled.{Nested, IsCounted, flat, unrolled}
use Rattle.law_unrolled.proofs.Instructions.{instructions_law}
use Rattle.lane_rows.specs.Lanes.{stepped}
use Rattle.lane_part.proofs.Marking.{first_of, not_true}
use Rattle.lane_body.specs.Counted.{advances, moved, counts}
use Rattle.lane_body.specs.declared.counted.Course.TheVariants.{Up}
use Rattle.team_in_place.specs.Spinning.{AreItsTurns, AreKept, IsInner}
use Rattle.team_in_place.proofs.Spins.{AdvancesAlike, counted_law}

-- what a turn does: instructions, the inner loop, instructions, and then the variable goes on by a step
abbrev pub inner_run : Register → Register → Nested → Running → Running
inner_run end by s r = counts greatest_trip_count Up s.ops s.inner end by (running (steps s.front r.machine) r.text)

abbrev pub nest_turn : Register → Register → Register → Register → Nested → Running → Running
nest_turn variable outer_by end by s r = running (moved Up variable outer_by (steps s.back (inner_run end by s r).machine)) (inner_run end by s r).text

-- it does what its instructions do, and then the variable goes on by a step
abbrev pub NestsAdvance : Type 0
NestsAdvance =
    (variable outer_by end by : Register) (s : Nested) (registers : List ℕ) (first step : ℕ) → s.value ≡ stepped first step → IsInner variable end by s registers first step
    → AdvancesAlike (nest_turn variable outer_by end by s) (flat s) variable outer_by registers

-- the instructions in front write no register that the turn leaves
front_left : (s : Nested) (x : ℕ) → is_written (flat s) x ≡ false → is_written s.front x ≡ false
front_left s x left = (or_parts (is_written s.front x) (is_written behind x) (sym (list_any-append (writes x) s.front behind) ∙ left)).0
  where
    behind : List Op
    behind = unrolled s.inner s.value s.ops s.count ++ (Constant s.inner s.next ∷ s.back)

-- the loop's instructions leave its variable
variable_left : (variable end by : ℕ) (ops : List Op) → (not (is_written ops variable) && (not (is_written ops end) && not (is_written ops by))) ≡ true → is_written ops variable ≡ false
variable_left variable end by ops all = not_true (is_written ops variable) (first_of (not (is_written ops variable)) (not (is_written ops end) && not (is_written ops by)) all)

-- numbers of turns have 64 bits
stepped_small : (first step k : ℕ) → stepped first step k < 2 ^ 64
stepped_small first step k = mod-lt (first + k * step) (omega arith)

module _ (variable outer_by end by : Register) (s : Nested) (registers : List ℕ) (first step : ℕ) (numbers : s.value ≡ stepped first step) (inner : IsInner variable end by s registers first step) (rs cells : List ℕ) (kept : AreKept variable.at (flat s) registers rs) where
  -- the machine in which the turn begins, that in which the inner loop does, and that behind the inner turns
  abbrev m : Machine
  m = machine rs cells

  abbrev m1 : Machine
  m1 = steps s.front m

  abbrev m2 : Machine
  m2 = turns s.inner.at (stepped first step) s.ops s.count m1

  -- where the inner loop begins, its end and its step are what they were
  held_there : (x : ℕ) → (variable.at == x) ≡ false → is_written (flat s) x ≡ false → slice_index m1.registers x ≡ slice_index registers x
  held_there x other left = steps_kept s.front rs cells x (front_left s x left) ∙ kept.rest x other left

  end_there : slice_index registers end.at ≡ slice_index m1.registers end.at
  end_there = sym (held_there end.at inner.end_other inner.end_left)

  -- so these are its turns
  its_turns : AreItsTurns s.inner end by s.ops m1.registers first step s.count s.next
  its_turns = record {
    steady = inner.steady;
    there = subst (λ n. s.inner.at < n) (sym (steps_length s.front rs cells ∙ kept.count)) inner.there;
    begins = inner.begins rs cells kept;
    by_step = held_there by.at inner.by_other inner.by_left ∙ inner.by_step;
    small = inner.small;
    step_small = inner.step_small;
    end_small = subst (λ n. n < 2 ^ 64) end_there inner.end_small;
    below = λ k lt. subst (λ n. first + k * step < n) end_there (inner.below k lt);
    goes_to = inner.goes_to;
    ends = subst (λ n. n ≤ s.next) end_there inner.ends;
    few = inner.few;
  }

  -- and the inner loop leaves what they leave, but for its variable
  inner_is : (text : List ℕ) → inner_run end by s (running m text) ≡ running (put s.inner.at s.next m2) text
  inner_is text = counted_law s.ops s.inner end by m1.registers m1.cells first step s.count s.next its_turns m2.registers m2.cells refl text

  counted : IsCounted s m
  counted = record {
    left = variable_left s.inner.at end.at by.at s.ops (first_of (not (is_written s.ops s.inner.at) && (not (is_written s.ops end.at) && not (is_written s.ops by.at))) (not (s.inner.at == end.at) && not (s.inner.at == by.at)) inner.steady);
    inside = subst (λ n. s.inner.at < n) (sym kept.count) inner.there;
    words = λ k. subst (λ (value : ℕ → ℕ). value k < 2 ^ 64) (sym numbers) (stepped_small first step k);
  }

  -- so the turn does what its instructions do
  pub turn_is : (text : List ℕ) → nest_turn variable outer_by end by s (running m text) ≡ advances Up (flat s) variable outer_by (running m text)
  turn_is text =
      ap (λ r. running (moved Up variable outer_by (steps s.back r.machine)) r.text) (inner_is text)
      ∙ ap (λ value. running (moved Up variable outer_by (steps s.back (put s.inner.at s.next (turns s.inner.at value s.ops s.count m1)))) text) (sym numbers)
      ∙ ap (λ k. running (moved Up variable outer_by k) text) (instructions_law s m counted)

pub nests_law : NestsAdvance
nests_law variable outer_by end by s registers first step numbers inner rs cells text kept = turn_is variable outer_by end by s registers first step numbers inner rs cells kept text
