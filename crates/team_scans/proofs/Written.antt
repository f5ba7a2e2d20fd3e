-- Turns that load operands side by side, save the register and do no more.
use Rattle.std.proofs.Common.{◌≡◌, ◌≢◌, ℕ, suc, ◌+◌, ◌-◌, ◌*◌, ◌%◌, ◌^◌, ◌<◌, ◌≤◌, Bool, true, false, List, [], ◌∷◌, ◌++◌, length, take, drop, refl, sym, ap, ◌∙◌, subst, arith}
use Rattle.std.specs.Prelude.{slice_index, slice_set, ◌==◌, not, ◌||◌, Contains}
use Rattle.std.specs.List.{list_all, list_any}
use Rattle.std.proofs.lemmas.Bool.{and_parts, eqb-false, eqb-true, not-true, or_parts, true≢false}
use Rattle.std.proofs.lemmas.List.{get_or-set_other, get_or-set_same, length-set, take-append-drop}
use Rattle.std.proofs.lemmas.List.Elements.{Contains-append_right}
use Rattle.std.proofs.lemmas.List.Folds.{list_any-append}
use Rattle.lower_machine.specs.declared.term.Register.{Register}
use Rattle.lower_machine.specs.Machine.{Machine, machine}
use Rattle.lower_op.specs.declared.op.Op.{Op}
use Rattle.lower_op.specs.Steps.{put, step, steps}
use Rattle.lower_op.specs.Stretches.{IsStretch}
use Rattle.law_lanes.specs.Reading.{is_written, place_of, place_reads, saves, writes}
use Rattle.law_lanes.specs.Lanes.{Lanes, entered, in_step, is_steady, lanes_of, turns}
use Rattle.law_lanes.specs.Folds.{folded}
use Rattle.law_lanes.proofs.Lanes.{fine_there, steps_kept, steps_length}
use Rattle.law_lanes.proofs.Ops.{Same, at, at_same, place_at}
use Rattle.law_lanes.proofs.Swap.{cel, cells_are, reg, resting}
use Rattle.law_lanes.proofs.Turning.{set_alike}
use Rattle.law_parts.specs.Parts.{IsBetween, IsPartOf, later}
use Rattle.law_prefixes.specs.Prefixes.{left_in, prefix, read_of}
use Rattle.law_prefix_parts.specs.PrefixParts.{LeavesPrefixes, begun_behind}
use Rattle.law_prefix_parts.proofs.Parts.{operands_law, prefix_parts_law}
use Rattle.lane_body.proofs.InLanes.{laned_room}
use Rattle.lane_rows.specs.Lanes.{Gives, stepped}
use Rattle.lane_part.proofs.Parting.{part_saves}
use Rattle.lane_part.specs.Parts.{work_saves}
use Rattle.lane_work.proofs.Folds.{folded_alike}
use Rattle.lower_lanes.specs.Saved.{SavesBy}
use Rattle.lower_lanes.proofs.Folded.{written_room}
use Rattle.lower_lanes.proofs.SavedBy.{save_there, then_saved}
use Rattle.lower_lanes.proofs.SavedTurns.{written_way}
use Rattle.lower_lanes.proofs.Scanned.{prefix_alike, written_all}
use Rattle.team_parts.specs.Window.{bound_of}
use Rattle.team_scans.specs.declared.prefixes.Prefixes.{Prefixes}
use Rattle.team_scans.specs.Operands.{cells_of_part, operand_of}
use Rattle.team_scans.specs.Placed.{AreCellsDone, IsPlaced, carried_by, left_by}
use Rattle.team_scans.proofs.Blocks.{are_prefixes, back_of, front_of, is_part, operator_of, target_there}
use Rattle.team_scans.proofs.Sums.{operands_are}

-- ---- instructions on one machine

-- those that save none leave all cells
quiet_cells : (ops : List Op) (r c : List ℕ) → list_any saves ops ≡ false → cel ops r c ≡ c
quiet_cells [] r c e = refl
quiet_cells (op ∷ ops) r c e =
    let p = or_parts (saves op) (list_any saves ops) e in
    quiet_cells ops (step op (machine r c)).registers (step op (machine r c)).cells p.1 ∙ cells_are op r c ∙ resting op r c p.0

-- a single lane is the machine
one_lane : (ops : List Op) (r c : List ℕ) → in_step ops (lanes_of (r ∷ []) c) ≡ lanes_of (reg ops r c ∷ []) (cel ops r c)
one_lane [] r c = refl
one_lane (op ∷ ops) r c = one_lane ops (step op (machine r c)).registers (step op (machine r c)).cells

-- instructions that save a register leave its number in the one cell
saved_cells : (back : List Op) (register way : Register) (save : Op) → SavesBy back register way save → (r c : List ℕ) (n : ℕ) → slice_index r register.at ≡ n → way.at < length r
    → cel back r c ≡ slice_set c (at save (slice_set r way.at n)) n
saved_cells back register way save h r c n is inside =
    ap (λ (l : Lanes). l.cells)
    (sym (one_lane back r c)
    ∙ then_saved back register way save h (λ k. r) 1 (λ k. n) (λ k. at save (slice_set r way.at n)) c (λ k lt. is) (λ k lt. inside) (λ k lt. refl))

-- ---- one turn

module _ (s : Prefixes) (way : Register) (save : Op) (saved : SavesBy (back_of s) s.scanned.target way save) where
  abbrev variable : ℕ
  variable = s.scanned.laned.variable.at

  abbrev value : ℕ → ℕ
  value = stepped s.first s.by

  abbrev to : ℕ
  to = s.scanned.target.at

  abbrev lanes : List Op
  lanes = s.scanned.laned.ops.now

  abbrev exclusive : Bool
  exclusive = s.scanned.exclusive

  all_ops : lanes ≡ front_of s ++ back_of s
  all_ops = sym (take-append-drop s.scanned.front lanes)

  to_written : is_written lanes to ≡ true
  to_written = written_all variable s.scanned.operator to exclusive s.scanned.front s.scanned.ops.now lanes s.scanned.scanned

  way_written : is_written lanes way.at ≡ true
  way_written = written_way variable s.scanned.operator to exclusive s.scanned.front s.scanned.ops.now lanes s.scanned.scanned s.scanned.target way save refl saved

  there : Contains lanes save
  there = subst (λ (l : List Op). Contains l save) (take-append-drop s.scanned.front lanes) (Contains-append_right (front_of s) (back_of s) save (save_there (back_of s) s.scanned.target way save saved))

  save_saves : saves save ≡ true
  save_saves = part_saves save ∙ ap work_saves saved.work

  other : variable ≢ to
  other = eqb-false variable to s.scanned.scanned.other

  -- a register that is not written is none of those that are
  free_of : (r w : ℕ) → is_written lanes r ≡ false → is_written lanes w ≡ true → r ≢ w
  free_of r w free written is = true≢false (sym written ∙ ap (is_written lanes) (sym is) ∙ free)

  front_free : (r : ℕ) → is_written lanes r ≡ false → is_written (front_of s) r ≡ false
  front_free r free = (or_parts (is_written (front_of s) r) (is_written (back_of s) r) (sym (ap (λ (l : List Op). is_written l r) all_ops ∙ list_any-append (writes r) (front_of s) (back_of s)) ∙ free)).0

  module _ (x v n : ℕ) (cells : List ℕ) (steady : list_all (is_steady lanes) lanes ≡ true) where
    -- the registers as the turn begins, and as the number is read
    abbrev begun : List ℕ
    begun = slice_set (slice_set s.registers.now to x) variable v

    abbrev read : List ℕ
    read = slice_set (reg (front_of s) begun cells) to n

    abbrev entry : List ℕ
    entry = slice_set s.registers.now variable v

    begun_entry : (r : ℕ) → r ≢ to → slice_index begun r ≡ slice_index entry r
    begun_entry r ne = go (variable == r) refl
      where
        go : (b : Bool) → (variable == r) ≡ b → slice_index begun r ≡ slice_index entry r
        go true e = subst (λ (i : ℕ). slice_index begun i ≡ slice_index entry i) (eqb-true variable r e) (set_alike (slice_set s.registers.now to x) s.registers.now variable v (length-set s.registers.now to x))
        go false e =
            let apart : r ≢ variable = λ is. eqb-false variable r e (sym is) in
            get_or-set_other (slice_set s.registers.now to x) variable r v 0 apart
            ∙ get_or-set_other s.registers.now to r x 0 ne
            ∙ sym (get_or-set_other s.registers.now variable r v 0 apart)

    steady_place : (r : ℕ) → is_written lanes r ≡ false → slice_index (slice_set read way.at n) r ≡ slice_index entry r
    steady_place r free =
        let apart : r ≢ to = free_of r to free to_written in
        get_or-set_other read way.at r n 0 (free_of r way.at free way_written)
        ∙ get_or-set_other (reg (front_of s) begun cells) to r n 0 apart
        ∙ steps_kept (front_of s) begun cells r (front_free r free)
        ∙ begun_entry r apart

    same_places : (rs : List ℕ) → list_all (λ r. not (is_written lanes r)) rs ≡ true → Same (slice_set read way.at n) entry rs
    same_places [] all = tt
    same_places (r ∷ rs) all = let p = and_parts (not (is_written lanes r)) (list_all (λ y. not (is_written lanes y)) rs) all in (steady_place r (not-true (is_written lanes r) p.0), same_places rs p.1)

    place_is : at save (slice_set read way.at n) ≡ at save entry
    place_is = at_same save (slice_set read way.at n) entry (same_places (place_reads save) (fine_there lanes steady save there).steady)

  -- ---- a turn of a part

  module _ (one : s.window.width ≡ 1) (from count : ℕ) (mine cells : List ℕ) (placed : IsPlaced s from count mine cells) (within : from + count ≤ s.count) (long : length mine ≡ s.window.width * count)
      (start : ℕ) (started : start ≡ carried_by s cells from) where
    abbrev f : ℕ → ℕ → ℕ
    f = operator_of s

    abbrev m : Machine
    m = machine s.registers.now cells

    abbrev part : List ℕ
    part = cells_of_part s from count mine

    abbrev operand : ℕ → ℕ
    operand k = operand_of s part (from + k)

    times_one : (n : ℕ) → s.window.width * n ≡ n
    times_one n = ap (λ (w : ℕ). w * n) one ∙ (let e : 1 * n ≡ n = omega arith in e)

    part_so_far : (k : ℕ) → k ≤ count → IsPartOf (bound_of s.window from) (bound_of s.window (from + k)) (bound_of s.window 0) (bound_of s.window s.count) cells part
    part_so_far k le =
        let p = is_part s from count mine cells placed within long in
        let a = times_one (from + k) in
        let b = times_one (from + count) in
        record {
          count = p.count;
          own = λ q between. p.own q (record { low = between.low; high = (let high = between.high in omega (arith, high, le, a, b)) });
          others = p.others;
        }

    -- what the register holds as a turn begins
    pub carried_at : (k : ℕ) → k ≤ count → carried_by s cells (from + k) ≡ folded f start operand k
    carried_at k le =
        operands_law variable value f to exclusive s.scanned.ops.now (front_of s) (back_of s) s.count m (bound_of s.window) from k part
        operand (are_prefixes s cells placed.apart) s.quiet (omega (arith, le, within)) (part_so_far k le) (operands_are s from k part)
        ∙ ap (λ (v : ℕ). folded f v operand k) (sym started)

    module _ (k : ℕ) (lt : k < count) where
      abbrev j : ℕ
      j = from + k

      abbrev x : ℕ
      x = carried_by s cells j

      abbrev v : ℕ
      v = later value j 0

      abbrev begin : Machine
      begin = entered variable (later value j) 0 (begun_behind variable value s.scanned.ops.now to m j cells)

      abbrev y : ℕ
      y = f (slice_index begin.registers to) (left_in to (front_of s) begin)

      abbrev n : ℕ
      n = read_of exclusive (slice_index begin.registers to) y

      all_of_it : IsPartOf (bound_of s.window j) (bound_of s.window (j + 1)) (bound_of s.window 0) (bound_of s.window s.count) cells cells
      all_of_it = record { count = refl; own = λ p between. refl; others = λ p beside. refl }

      leaves : LeavesPrefixes variable value s.scanned.ops.now s.count m (bound_of s.window) j 1 (turns variable (later value j) s.scanned.ops.now 1 (begun_behind variable value s.scanned.ops.now to m j cells))
      leaves = prefix_parts_law variable value f to exclusive s.scanned.ops.now (front_of s) (back_of s) s.count m (bound_of s.window) j 1 cells (are_prefixes s cells placed.apart) (omega (arith, lt, within)) all_of_it

      to_there : to < length begin.registers
      to_there =
          let inside = target_there s in
          let a = length-set s.registers.now to x in
          let b = length-set (slice_set s.registers.now to x) variable v in
          omega (arith, inside, a, b)

      abbrev ran : List ℕ
      ran = reg (front_of s) begin.registers cells

      ran_long : length ran ≡ length begin.registers
      ran_long = steps_length (front_of s) begin.registers cells

      turn_is : steps s.scanned.ops.now begin ≡ put to y (steps (back_of s) (put to n (steps (front_of s) begin)))
      turn_is = s.scanned.scanned.prefix.turn begin to_there

      front_is : cel (front_of s) begin.registers cells ≡ cells
      front_is = quiet_cells (front_of s) begin.registers cells s.quiet

      -- the register, as the turn ends
      y_is : y ≡ folded f start operand (suc k)
      y_is =
          let long_back = steps_length (back_of s) (slice_set ran to n) (cel (front_of s) begin.registers cells) in
          let long_set = length-set ran to n in
          let is : to < length (reg (back_of s) (slice_set ran to n) (cel (front_of s) begin.registers cells)) = omega (arith, to_there, ran_long, long_back, long_set) in
          sym (get_or-set_same (reg (back_of s) (slice_set ran to n) (cel (front_of s) begin.registers cells)) to y 0 is)
          ∙ ap (λ (a : Machine). slice_index a.registers to) (sym turn_is)
          ∙ ap (λ (l : List ℕ). slice_index l to) (leaves.registers (omega arith))
          ∙ ap (carried_by s cells) (let e : j + 1 ≡ from + suc k = omega arith in e)
          ∙ carried_at (suc k) (omega (arith, lt))

      -- and as it begins
      x_is : slice_index begin.registers to ≡ folded f start operand k
      x_is =
          get_or-set_other (slice_set s.registers.now to x) variable to v 0 (λ is. other (sym is))
          ∙ get_or-set_same s.registers.now to x 0 (target_there s)
          ∙ carried_at k (omega (arith, lt))

      n_is : n ≡ prefix f exclusive start operand k
      n_is =
          ap (λ (a : ℕ). read_of exclusive a y) x_is
          ∙ ap (read_of exclusive (folded f start operand k)) y_is

      way_there : way.at < length (slice_set ran to n)
      way_there =
          let low = written_room s.scanned.laned.limit way.at lanes (laned_room s.scanned.laned.limit variable lanes s.scanned.laned.laned) way_written in
          let wide = s.wide in
          let a = length-set s.registers.now to x in
          let b = length-set (slice_set s.registers.now to x) variable v in
          let c = length-set ran to n in
          omega (arith, low, wide, a, b, c, ran_long)

      abbrev place : ℕ
      place = at save (slice_set (slice_set ran to n) way.at n)

      cells_now : (turns variable (later value j) s.scanned.ops.now 1 (begun_behind variable value s.scanned.ops.now to m j cells)).cells ≡ slice_set cells place n
      cells_now =
          ap (λ (a : Machine). a.cells) turn_is
          ∙ saved_cells (back_of s) s.scanned.target way save saved (slice_set ran to n) (cel (front_of s) begin.registers cells) n
          (get_or-set_same ran to n 0 (omega (arith, to_there, ran_long))) way_there
          ∙ ap (λ (c : List ℕ). slice_set c place n) front_is

      place_between : IsBetween (bound_of s.window j) (bound_of s.window (suc j)) place
      place_between =
          let is : place ≡ place_of save (entered variable value j m) =
          place_is x v n cells placed.apart.steady
          ∙ ap (λ (i : ℕ). at save (slice_set s.registers.now variable (value i))) (let e : j + 0 ≡ j = omega arith in e)
          ∙ sym (place_at save (slice_set s.registers.now variable (value j)) cells) in
          subst (IsBetween (bound_of s.window j) (bound_of s.window (suc j))) (sym is) (placed.apart.writes save j there (omega (arith, lt, within)) save_saves)

      -- the one cell of a turn with such a window
      place_there : place ≡ s.window.low + s.window.width * from + k
      place_there =
          let low = place_between.low in
          let high = place_between.high in
          let a = times_one j in
          let b = times_one (suc j) in
          let c = times_one from in
          omega (arith, low, high, a, b, c)

      -- what all turns leave there
      pub left_there : slice_index (left_by s cells s.count).cells (s.window.low + s.window.width * from + k) ≡ prefix f exclusive start operand k
      left_there =
          let all = placed.long in
          let c = times_one s.count in
          let b = times_one from in
          let inside : place < length cells = omega (arith, all, c, b, place_there, lt, within) in
          ap (slice_index (left_by s cells s.count).cells) (sym place_there)
          ∙ sym (leaves.cells place (subst (λ (e : ℕ). IsBetween (bound_of s.window j) (bound_of s.window e) place) (let e : suc j ≡ j + 1 = omega arith in e) place_between))
          ∙ ap (λ (l : List ℕ). slice_index l place) cells_now
          ∙ get_or-set_same cells place n 0 inside
          ∙ n_is

-- ---- a part

-- cells that take the numbers that are read are those that the turns leave
pub straight_done : (s : Prefixes) (start from count : ℕ) (mine new row : List ℕ) (next : ℕ) (way : Register) (save : Op) → SavesBy (back_of s) s.scanned.target way save → s.window.width ≡ 1 → from + count ≤ s.count → length mine ≡ s.window.width * count
    → ((k : ℕ) → k < count → slice_index row k ≡ operand_of s (cells_of_part s from count mine) (from + k))
    → Gives count (prefix (operator_of s) s.scanned.exclusive start (slice_index row)) mine new → next ≡ folded (operator_of s) start (slice_index row) count → AreCellsDone s start from count mine new next
straight_done s start from count mine new row next way save saved one within long reads gives total = record {
  long = gives.long;
  own = λ cells k placed started lt.
      let here : k < count = (let w : s.window.width * count ≡ 1 * count = ap (λ (i : ℕ). i * count) one in omega (arith, lt, w)) in
      gives.each k here
      ∙ prefix_alike (operator_of s) s.scanned.exclusive start (slice_index row) (λ i. operand_of s (cells_of_part s from count mine) (from + i)) k (λ i less. reads i (omega (arith, less, here)))
      ∙ sym (left_there s way save saved one from count mine cells placed within long start started k here);
  behind = λ cells placed started.
      total
      ∙ folded_alike (operator_of s) start (slice_index row) (λ i. operand_of s (cells_of_part s from count mine) (from + i)) count reads
      ∙ sym (carried_at s way save saved one from count mine cells placed within long start started count (omega arith));
}
