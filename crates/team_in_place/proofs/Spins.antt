-- Counted loops leave what their turns leave, and so do loops that do what these do.
use Rattle.std.proofs.Common.{◌≡◌, ℕ, zero, suc, ◌+◌, ◌-◌, ◌*◌, ◌^◌, ◌<◌, ◌≤◌, Bool, true, false, cond, List, refl, sym, ap, ◌∙◌, subst, arith}
use Rattle.std.specs.Prelude.{slice_index, slice_set, nat_lt, not, ◌==◌, ◌&&◌}
use Rattle.std.proofs.lemmas.Bool.{eqb-false, ltb-true}
use Rattle.semantics.specs.Meaning.Runs.{greatest_trip_count}
use Rattle.lower_machine.specs.declared.term.Register.{Register}
use Rattle.lower_machine.specs.Machine.{Machine, Running, machine, running, operate_or_zero, spins}
use Rattle.lower_machine.proofs.Course.{spins_over}
use Rattle.lower_op.specs.declared.op.Op.{Op}
use Rattle.lower_op.specs.Steps.{held, put, steps}
use Rattle.lower_op.proofs.Stepping.{length_set, index_same, index_other}
use Rattle.law_lanes.specs.Reading.{is_written}
use Rattle.law_lanes.specs.Lanes.{turns}
use Rattle.law_lanes.proofs.Lanes.{steps_kept, steps_length}
use Rattle.lane_rows.specs.Lanes.{stepped}
use Rattle.lane_part.proofs.Marking.{first_of, not_true, second_of}
use Rattle.lane_body.specs.Counted.{advances, counts, goes_on, step_operator}
use Rattle.lane_body.specs.declared.counted.Course.TheVariants.{Up}
use Rattle.lower_lanes.proofs.Counting.{many}
use Rattle.team_in_place.specs.Spinning.{AreItsTurns, AreKept}

-- a counted loop leaves what its turns leave, but for its variable
abbrev pub CountedTurns : Type 0
CountedTurns =
    (ops : List Op) (variable end by : Register) (registers cells : List ℕ) (first step count next : ℕ) → AreItsTurns variable end by ops registers first step count next
    → (rs cells' : List ℕ) → machine rs cells' ≡ turns variable.at (stepped first step) ops count (machine registers cells)
    → (text : List ℕ) → counts greatest_trip_count Up ops variable end by (running (machine registers cells) text) ≡ running (machine (slice_set rs variable.at next) cells') text

-- from such registers a turn does what instructions do, and then the variable goes on by a step
abbrev pub AdvancesAlike : (Running → Running) → List Op → Register → Register → List ℕ → Type 0
AdvancesAlike turn ops variable by registers =
    (rs cells text : List ℕ) → AreKept variable.at ops registers rs → turn (running (machine rs cells) text) ≡ advances Up ops variable by (running (machine rs cells) text)

-- a loop of such turns leaves what the turns of the instructions leave, but for its variable
abbrev pub SpinsAreTurns : Type 0
SpinsAreTurns =
    (turn : Running → Running) (goes : Machine → Bool) (ops : List Op) (variable end by : Register) (registers cells : List ℕ) (first step count next : ℕ)
    → AreItsTurns variable end by ops registers first step count next → ((m : Machine) → goes m ≡ goes_on Up variable end m) → AdvancesAlike turn ops variable by registers
    → (rs cells' : List ℕ) → machine rs cells' ≡ turns variable.at (stepped first step) ops count (machine registers cells)
    → (text : List ℕ) → spins greatest_trip_count goes turn (running (machine registers cells) text) ≡ running (machine (slice_set rs variable.at next) cells') text

-- ---- registers that are kept

module _ (variable : ℕ) (ops : List Op) (registers : List ℕ) where
  -- the variable may be written
  kept_set : (rs : List ℕ) (v : ℕ) → AreKept variable ops registers rs → AreKept variable ops registers (slice_set rs variable v)
  kept_set rs v kept = record {
    count = length_set rs variable v ∙ kept.count;
    rest = λ x other left. index_other rs variable x v (λ e. eqb-false variable x other (sym e)) ∙ kept.rest x other left;
  }

  -- and the instructions may run
  kept_steps : (rs cells : List ℕ) → AreKept variable ops registers rs → AreKept variable ops registers (steps ops (machine rs cells)).registers
  kept_steps rs cells kept = record {
    count = steps_length ops rs cells ∙ kept.count;
    rest = λ x other left. steps_kept ops rs cells x left ∙ kept.rest x other left;
  }

  -- so turns keep them
  kept_turns : (value : ℕ → ℕ) (cells : List ℕ) (k : ℕ) → AreKept variable ops registers (turns variable value ops k (machine registers cells)).registers
  kept_turns value cells zero = record { count = refl; rest = λ x other left. refl }
  kept_turns value cells (suc k) =
      let m : Machine = turns variable value ops k (machine registers cells) in
      kept_steps (slice_set m.registers variable (value k)) m.cells (kept_set m.registers (value k) (kept_turns value cells k))

-- ---- a counted loop

-- so many turns are no more than there can be
enough : (n : ℕ) → n ≤ 2 ^ 24 → greatest_trip_count - n + n ≡ greatest_trip_count
unfolding greatest_trip_count
enough n few = omega (arith, few)

-- a number that has reached its end is not below it
not_less : (a b : ℕ) → b ≤ a → nat_lt a b ≡ false
not_less a b le = go (nat_lt a b) refl
  where
    go : (t : Bool) → nat_lt a b ≡ t → nat_lt a b ≡ false
    go true e = let lt : a < b = ltb-true a b e in absurd (omega (arith, lt, le))
    go false e = e

module _ (ops : List Op) (variable end by : Register) (registers cells : List ℕ) (first step count next : ℕ) (are : AreItsTurns variable end by ops registers first step count next) where
  -- the end's register is not the variable, and no instruction writes it
  front : (not (is_written ops variable.at) && (not (is_written ops end.at) && not (is_written ops by.at))) ≡ true
  front = first_of (not (is_written ops variable.at) && (not (is_written ops end.at) && not (is_written ops by.at))) (not (variable.at == end.at) && not (variable.at == by.at)) are.steady

  behind : (not (variable.at == end.at) && not (variable.at == by.at)) ≡ true
  behind = second_of (not (is_written ops variable.at) && (not (is_written ops end.at) && not (is_written ops by.at))) (not (variable.at == end.at) && not (variable.at == by.at)) are.steady

  others_left : (not (is_written ops end.at) && not (is_written ops by.at)) ≡ true
  others_left = second_of (not (is_written ops variable.at)) (not (is_written ops end.at) && not (is_written ops by.at)) front

  end_left : is_written ops end.at ≡ false
  end_left = not_true (is_written ops end.at) (first_of (not (is_written ops end.at)) (not (is_written ops by.at)) others_left)

  not_end : (variable.at == end.at) ≡ false
  not_end = not_true (variable.at == end.at) (first_of (not (variable.at == end.at)) (not (variable.at == by.at)) behind)

  -- what is known of the numbers, said of what the registers hold
  small : slice_index registers variable.at < 2 ^ 64
  small = subst (λ n. n < 2 ^ 64) (sym are.begins) are.small

  by_small : slice_index registers by.at < 2 ^ 64
  by_small = subst (λ n. n < 2 ^ 64) (sym are.by_step) are.step_small

  abbrev IsBelow : ℕ → ℕ → Type 0
  IsBelow from each = (k : ℕ) → k < count → from + k * each < slice_index registers end.at

  below : IsBelow (slice_index registers variable.at) (slice_index registers by.at)
  below = subst (λ s. IsBelow (slice_index registers variable.at) s) (sym are.by_step) (subst (λ f. IsBelow f step) (sym are.begins) are.below)

  module _ (rs cells' : List ℕ) (ran : machine rs cells' ≡ turns variable.at (stepped first step) ops count (machine registers cells)) where
    abbrev new : List ℕ
    new = slice_set rs variable.at next

    -- the machine behind the turns, with the variable where it stands then
    put_there : put variable.at (stepped (slice_index registers variable.at) (slice_index registers by.at) count) (turns variable.at (stepped (slice_index registers variable.at) (slice_index registers by.at)) ops count (machine registers cells)) ≡ machine new cells'
    put_there =
        ap (λ f. put variable.at (stepped f (slice_index registers by.at) count) (turns variable.at (stepped f (slice_index registers by.at)) ops count (machine registers cells))) are.begins
        ∙ ap (λ s. put variable.at (stepped first s count) (turns variable.at (stepped first s) ops count (machine registers cells))) are.by_step
        ∙ ap (put variable.at (stepped first step count)) (sym ran)
        ∙ ap (λ n. machine (slice_set rs variable.at n) cells') (sym are.goes_to)

    -- behind so many turns the loop goes on from there
    goes : (k : ℕ) (text : List ℕ) → counts (k + count) Up ops variable end by (running (machine registers cells) text) ≡ counts k Up ops variable end by (running (machine new cells') text)
    goes k text =
        many Up ops variable end by are.steady (machine registers cells) are.there small count below are.end_small by_small count k text (omega arith)
        ∙ ap (λ m. counts k Up ops variable end by (running m text)) put_there

    -- the turns keep what they do not write
    turns_kept : AreKept variable.at ops registers rs
    turns_kept = subst (λ (m : Machine). AreKept variable.at ops registers m.registers) (sym ran) (kept_turns variable.at ops registers (stepped first step) cells count)

    variable_held : slice_index new variable.at ≡ next
    variable_held = let same = turns_kept.count in let there = are.there in index_same rs variable.at next (omega (arith, same, there))

    end_held : slice_index new end.at ≡ slice_index registers end.at
    end_held = (kept_set variable.at ops registers rs next turns_kept).rest end.at not_end end_left

    -- no more turn begins there
    at_end : goes_on Up variable end (machine new cells') ≡ false
    at_end = let ends = are.ends in not_less (slice_index new variable.at) (slice_index new end.at) (omega (arith, variable_held, end_held, ends))

    pub all_turns : (text : List ℕ) → counts greatest_trip_count Up ops variable end by (running (machine registers cells) text) ≡ running (machine new cells') text
    all_turns text =
        let few = are.few in
        ap (λ k. counts k Up ops variable end by (running (machine registers cells) text)) (sym (enough count few))
        ∙ goes (greatest_trip_count - count) text
        ∙ spins_over count (goes_on Up variable end) (advances Up ops variable by) (running (machine new cells') text) at_end

pub counted_law : CountedTurns
counted_law ops variable end by registers cells first step count next are rs cells' ran text =
    all_turns ops variable end by registers cells first step count next are rs cells' ran text

-- ---- a loop that does what a counted loop does

module _ (turn : Running → Running) (goes : Machine → Bool) (ops : List Op) (variable end by : Register) (registers : List ℕ) (tests : (m : Machine) → goes m ≡ goes_on Up variable end m) (alike : AdvancesAlike turn ops variable by registers) where
  -- a turn keeps what the instructions and the variable's step keep
  kept_on : (r : Running) → AreKept variable.at ops registers r.machine.registers → AreKept variable.at ops registers (advances Up ops variable by r).machine.registers
  kept_on r kept =
      let m : Machine = steps ops r.machine in
      kept_set variable.at ops registers m.registers (operate_or_zero (step_operator Up) (held m variable) (held m by)) (kept_steps variable.at ops registers r.machine.registers r.machine.cells kept)

  -- so it is the counted loop, turn by turn
  spins_alike : (n : ℕ) (r : Running) → AreKept variable.at ops registers r.machine.registers → spins n goes turn r ≡ counts n Up ops variable end by r
  spins_alike zero r kept = refl
  spins_alike (suc n) r kept =
      ap (λ b. cond b (spins n goes turn (turn r)) r) (tests r.machine)
      ∙ ap (λ k. cond (goes_on Up variable end r.machine) (spins n goes turn k) r) (alike r.machine.registers r.machine.cells r.text kept)
      ∙ ap (λ k. cond (goes_on Up variable end r.machine) k r) (spins_alike n (advances Up ops variable by r) (kept_on r kept))

pub spins_law : SpinsAreTurns
spins_law turn goes ops variable end by registers cells first step count next are tests alike rs cells' ran text =
    spins_alike turn goes ops variable end by registers tests alike greatest_trip_count (running (machine registers cells) text) (record { count = refl; rest = λ x other left. refl })
    ∙ counted_law ops variable end by registers cells first step count next are rs cells' ran text
