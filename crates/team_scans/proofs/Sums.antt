-- The operands of a part added up.
use Rattle.std.proofs.Common.{◌≡◌, ℕ, zero, suc, ◌+◌, ◌-◌, ◌*◌, ◌%◌, ◌^◌, ◌<◌, ◌≤◌, Bool, true, cond, List, ◌++◌, length, map, replicate, take, drop, refl, sym, ap, ◌∙◌, subst, arith}
use Rattle.std.specs.Prelude.{slice_index, slice_range, slice_set}
use Rattle.std.specs.List.{list_all}
use Rattle.std.proofs.Math.Seq.{drop-append-add, drop-append_seam, take-append_seam}
use Rattle.std.proofs.lemmas.Bool.{and_parts, or_left, or_right}
use Rattle.std.proofs.lemmas.List.{length-replicate, take-append-drop}
use Rattle.std.proofs.lemmas.List.Folds.{list_all-append, list_any-append}
use Rattle.std.proofs.lemmas.Simd.{map-map}
use Rattle.semantics.specs.Tree
use Rattle.semantics.specs.Meaning.Places.{below}
use Rattle.ktree.specs.View.{binary_of}
use Rattle.ktree.specs.declared.expression.BinaryOp.{BinaryOp}
use Rattle.lower_machine.specs.declared.term.Register.{Register}
use Rattle.lower_machine.specs.Machine.{machine, operate_or_zero}
use Rattle.lower_op.specs.declared.op.Op.{Op}
use Rattle.lower_op.specs.Steps.{steps}
use Rattle.law_lanes.specs.Reading.{is_written, writes}
use Rattle.law_lanes.specs.Lanes.{Lanes, lanes_of, begun, entered, in_step, is_steady}
use Rattle.law_lanes.specs.Folds.{folded}
use Rattle.law_parts.specs.Parts.{IsPartOf, later}
use Rattle.law_prefix_parts.proofs.Parts.{operands_law}
use Rattle.law_prefix_parts.proofs.Quiet.{quiet_in_step}
use Rattle.lane_rows.specs.Lanes.{lane, stepped, HasRow}
use Rattle.lane_part.specs.Parts.{has_room, marked}
use Rattle.lane_work.specs.Files.{AreKept, files, file, look, total}
use Rattle.law_lanes.proofs.Below.{over_alike, over_at}
use Rattle.lane_work.proofs.Filing.{map_over, row_lane}
use Rattle.lane_work.proofs.Folds.{total_folded}
use Rattle.lower_lanes.specs.Saved.{IsOperand}
use Rattle.lower_lanes.specs.Tails.{AreOf}
use Rattle.lower_lanes.proofs.Behind as Behind
use Rattle.lower_lanes.proofs.Operands.{front_ran, operands}
use Rattle.lower_lanes.proofs.Turned.{begun_files, begun_kept}
use Rattle.team_parts.specs.Parted.{parted}
use Rattle.team_parts.specs.Window.{bound_of}
use Rattle.team_scans.specs.declared.prefixes.Prefixes.{Prefixes}
use Rattle.team_scans.specs.Operands.{added, operand_of}
use Rattle.team_scans.specs.Placed.{IsPlaced, IsSum, carried_by}
use Rattle.team_scans.proofs.Blocks.{are_prefixes, back_of, front_of, is_part, numbers_from, operator_of, target_there}

-- ---- sums

abbrev plus : ℕ → ℕ → ℕ
plus = operate_or_zero Tree.Plus

-- those of turns from one on, and of more turns behind these
pub added_more : (s : Prefixes) (cells : List ℕ) (from done n : ℕ) → added s cells (from + done) (added s cells from 0 done) n ≡ added s cells from 0 (done + n)
added_more s cells from done zero = ap (added s cells from 0) (let e : done ≡ done + 0 = omega arith in e)
added_more s cells from done (suc n) =
    ap (λ (v : ℕ). plus v (operand_of s cells (from + done + n))) (added_more s cells from done n)
    ∙ ap (λ (k : ℕ). plus (added s cells from 0 (done + n)) (operand_of s cells k)) (let e : from + done + n ≡ from + (done + n) = omega arith in e)
    ∙ ap (added s cells from 0) (let e : suc (done + n) ≡ done + suc n = omega arith in e)

one_more : (v sum x : ℕ) → ((v + sum) % 2 ^ 64 + x) % 2 ^ 64 ≡ (v + (sum + x) % 2 ^ 64) % 2 ^ 64
one_more v sum x = omega arith

-- a number and a sum
pub adds_sum : (v : ℕ) (operand : ℕ → ℕ) (n : ℕ) → v < 2 ^ 64 → folded plus v operand n ≡ (v + folded plus 0 operand n) % 2 ^ 64
adds_sum v operand zero small = let e : v ≡ (v + 0) % 2 ^ 64 = omega (arith, small) in e
adds_sum v operand (suc n) small =
    ap (λ (x : ℕ). (x + operand n) % 2 ^ 64) (adds_sum v operand n small) ∙ one_more v (folded plus 0 operand n) (operand n)

small_sum : (v : ℕ) (operand : ℕ → ℕ) (n : ℕ) → v < 2 ^ 64 → folded plus v operand n < 2 ^ 64
small_sum v operand n small =
    let e = adds_sum v operand n small in
    omega (arith, e)

-- ---- operands in rows

pub front_fits : (s : Prefixes) → AreOf s.scanned.laned.limit s.scanned.laned.ops.now (front_of s)
front_fits s = Behind.front_of s.scanned.laned.limit s.scanned.laned.variable.at s.scanned.laned.ops.now (front_of s) (back_of s) (sym (take-append-drop s.scanned.front s.scanned.laned.ops.now)) s.scanned.laned.laned

-- of instructions that fit both parts do
pub parts_fit : (limit : ℕ) (every a b : List Op) → AreOf limit every (a ++ b) → AreOf limit every a × AreOf limit every b
parts_fit limit every a b h =
    let room = and_parts (list_all (has_room limit) a) (list_all (has_room limit) b) (sym (list_all-append (has_room limit) a b) ∙ h.room) in
    let steady = and_parts (list_all (is_steady every) a) (list_all (is_steady every) b) (sym (list_all-append (is_steady every) a b) ∙ h.steady) in (
      record { room = room.0; steady = steady.0; within = λ r w. h.within r (list_any-append (writes r) a b ∙ or_left (is_written a r) (is_written b r) w) },
      record { room = room.1; steady = steady.1; within = λ r w. h.within r (list_any-append (writes r) a b ∙ or_right (is_written a r) (is_written b r) w) },
    )

-- where they went over all turns, from rows of none
pub ran_over : (s : Prefixes) (first n : ℕ) (cells rows new after : List ℕ) (marks : ℕ) (ops : List Op) → AreOf s.scanned.laned.limit s.scanned.laned.ops.now ops
    → ((every : List Op) → list_all (is_steady every) ops ≡ true → ((r : ℕ) → is_written ops r ≡ true → is_written every r ≡ true) → AreKept s.scanned.laned.variable.at (stepped first s.by) every n s.registers.now rows 0
    → in_step ops (lanes_of (files s.scanned.laned.variable.at (stepped first s.by) rows s.registers.now 0 n) cells) ≡ lanes_of (files s.scanned.laned.variable.at (stepped first s.by) new s.registers.now marks n) after)
    → in_step ops (begun s.scanned.laned.variable.at (stepped first s.by) n (machine s.registers.now cells)) ≡ lanes_of (files s.scanned.laned.variable.at (stepped first s.by) new s.registers.now marks n) after
ran_over s first n cells rows new after marks ops fits does =
    let l = s.scanned.laned in
    let v = stepped first s.by in
    ap (in_step ops) (sym (begun_files l.variable.at v n s.registers.now rows cells))
    ∙ does l.ops.now fits.steady fits.within (begun_kept l.variable.at v n s.registers.now rows l.ops.now)

module _ (s : Prefixes) (from n : ℕ) (cells : List ℕ) where
  -- lanes of the instructions in front
  abbrev lanes : Lanes
  lanes = in_step (front_of s) (begun s.scanned.laned.variable.at (later (stepped s.first s.by) from) n (machine s.registers.now cells))

  each_quiet : lanes ≡ lanes_of (map (λ k. (steps (front_of s) (entered s.scanned.laned.variable.at (later (stepped s.first s.by) from) k (machine s.registers.now cells))).registers) (below n)) cells
  each_quiet = quiet_in_step (front_of s) (λ k. (entered s.scanned.laned.variable.at (later (stepped s.first s.by) from) k (machine s.registers.now cells)).registers) (below n) cells s.quiet

  pub operands_are : map (λ r. slice_index r s.scanned.target.at) lanes.registers ≡ map (λ k. operand_of s cells (from + k)) (below n)
  operands_are =
      ap (λ (l : Lanes). map (λ r. slice_index r s.scanned.target.at) l.registers) each_quiet
      ∙ map-map (λ r. slice_index r s.scanned.target.at) (λ k. (steps (front_of s) (entered s.scanned.laned.variable.at (later (stepped s.first s.by) from) k (machine s.registers.now cells))).registers) (below n)

  pub cells_stay : lanes.cells ≡ cells
  cells_stay = ap (λ (l : Lanes). l.cells) each_quiet

  -- where they stand in the row of another register
  module _ (first : ℕ) (is : first ≡ stepped s.first s.by from) (made moved : List Op) (source : Register) (operand : IsOperand (front_of s) made moved s.scanned.target source) (rows mid : List ℕ) (marks : ℕ)
      (ran : in_step made (begun s.scanned.laned.variable.at (stepped first s.by) n (machine s.registers.now cells)) ≡ lanes_of (files s.scanned.laned.variable.at (stepped first s.by) rows s.registers.now marks n) mid)
      (row : marked marks source.at ≡ true) (inside : source.at < length s.registers.now) where
    abbrev counted : List Op → Lanes
    counted ops = in_step ops (begun s.scanned.laned.variable.at (stepped first s.by) n (machine s.registers.now cells))

    lanes_begin : lanes ≡ counted (front_of s)
    lanes_begin = ap (λ (v : ℕ → ℕ). in_step (front_of s) (begun s.scanned.laned.variable.at v n (machine s.registers.now cells))) (sym (numbers_from s.first s.by from first is))

    pub made_in_rows : map (λ r. slice_index r s.scanned.target.at) lanes.registers ≡ map (lane rows source.at) (below n)
    made_in_rows =
        ap (λ (l : Lanes). map (λ r. slice_index r s.scanned.target.at) l.registers) lanes_begin
        ∙ operands (front_of s) made moved s.scanned.target source operand s.scanned.laned.variable.at (stepped first s.by) n s.registers.now cells rows marks mid ran row inside s.scanned.target.at refl (target_there s)

    pub made_cells : mid ≡ cells
    made_cells =
        sym (ap (λ (l : Lanes). l.cells) (lanes_begin ∙ front_ran (front_of s) made moved s.scanned.target source operand s.scanned.laned.variable.at (stepped first s.by) n s.registers.now cells rows marks mid ran row inside))
        ∙ cells_stay

  module _ (first : ℕ) (rows after : List ℕ) (marks : ℕ) (is : first ≡ stepped s.first s.by from)
      (ran : in_step (front_of s) (begun s.scanned.laned.variable.at (stepped first s.by) n (machine s.registers.now cells)) ≡ lanes_of (files s.scanned.laned.variable.at (stepped first s.by) rows s.registers.now marks n) after) where
    abbrev variable : ℕ
    variable = s.scanned.laned.variable.at

    abbrev to : ℕ
    to = s.scanned.target.at

    lanes_are : lanes ≡ lanes_of (files variable (stepped first s.by) rows s.registers.now marks n) after
    lanes_are = ap (λ (v : ℕ → ℕ). in_step (front_of s) (begun variable v n (machine s.registers.now cells))) (sym (numbers_from s.first s.by from first is)) ∙ ran

    pub same_cells : after ≡ cells
    same_cells = sym (ap (λ (l : Lanes). l.cells) lanes_are) ∙ cells_stay

    -- the row of the register holds the operands
    pub in_rows : marked marks to ≡ true → map (λ r. slice_index r to) lanes.registers ≡ map (lane rows to) (below n)
    in_rows there =
        ap (λ (l : Lanes). map (λ r. slice_index r to) l.registers) lanes_are
        ∙ map_over (file variable (stepped first s.by) rows s.registers.now marks) (λ r. slice_index r to) (below n)
        ∙ over_alike (λ k. slice_index (file variable (stepped first s.by) rows s.registers.now marks k) to) (lane rows to) n
        (λ k lt. over_at (look variable (stepped first s.by) rows s.registers.now marks k) (length s.registers.now) to (target_there s)
        ∙ ap (λ (b : Bool). cond b (lane rows to k) (slice_index (slice_set s.registers.now variable (stepped first s.by k)) to)) there)

  -- a row that holds what the register does in each lane
  pub row_holds : (rows : List ℕ) (at : ℕ) → map (λ r. slice_index r s.scanned.target.at) lanes.registers ≡ map (lane rows at) (below n) → (k : ℕ) → k < n → lane rows at k ≡ operand_of s cells (from + k)
  row_holds rows at is k lt =
      sym (over_at (lane rows at) n k lt)
      ∙ ap (λ (l : List ℕ). slice_index l k) (sym is ∙ operands_are)
      ∙ over_at (λ k. operand_of s cells (from + k)) n k lt

  -- of which the operands are added up
  pub row_adds : (rows row : List ℕ) (at : ℕ) → n ≤ 256 → HasRow rows at → row ≡ slice_range rows (at * 256) (at * 256 + 256) → ((k : ℕ) → k < n → lane rows at k ≡ operand_of s cells (from + k)) → (sum : ℕ) → total plus sum row n ≡ added s cells from sum n
  row_adds rows row at few has is_row holds sum =
      total_folded plus sum row (λ k. operand_of s cells (from + k)) n (λ k lt. row_lane rows row at k is_row has (omega (arith, lt, few)) ∙ holds k lt)

-- ---- what a part adds

-- the own cells are where they were
pub own_part : (before : List ℕ) (left : ℕ) (own : List ℕ) (right : ℕ) (behind : List ℕ) → take (length own) (drop (length before + left) (parted before left own right behind)) ≡ own
own_part before left own right behind =
    ap (take (length own)) (drop-append-add before (replicate left 0 ++ (own ++ (replicate right 0 ++ behind))) left
    ∙ ap (λ (n : ℕ). drop n (replicate left 0 ++ (own ++ (replicate right 0 ++ behind)))) (sym (length-replicate left 0))
    ∙ drop-append_seam (replicate left 0) (own ++ (replicate right 0 ++ behind)))
    ∙ take-append_seam own (replicate right 0 ++ behind)

module _ (s : Prefixes) (fits : (r : ℕ) → slice_index s.registers.now r < 2 ^ 64) where
  by_plus : (v : ℕ) (operand : ℕ → ℕ) (n : ℕ) → folded (operator_of s) v operand n ≡ folded plus v operand n
  by_plus v operand n = ap (λ (o : BinaryOp). folded (operate_or_zero (binary_of o)) v operand n) s.sums

  module _ (from count : ℕ) (mine cells : List ℕ) (placed : IsPlaced s from count mine cells) (within : from + count ≤ s.count) where
    -- the register holds a number of 64 bits
    small : carried_by s cells from < 2 ^ 64
    small = subst (λ (n : ℕ). n < 2 ^ 64) (sym is) (small_sum (slice_index s.registers.now s.scanned.target.at) (λ k. operand_of s cells (0 + k)) from (fits s.scanned.target.at))
      where
        all : IsPartOf (bound_of s.window 0) (bound_of s.window (0 + from)) (bound_of s.window 0) (bound_of s.window s.count) cells cells
        all = record { count = refl; own = λ p between. refl; others = λ p beside. refl }

        is : carried_by s cells from ≡ folded plus (slice_index s.registers.now s.scanned.target.at) (λ k. operand_of s cells (0 + k)) from
        is =
            ap (carried_by s cells) (let e : from ≡ 0 + from = omega arith in e)
            ∙ operands_law s.scanned.laned.variable.at (stepped s.first s.by) (operator_of s) s.scanned.target.at s.scanned.exclusive s.scanned.ops.now (front_of s) (back_of s) s.count (machine s.registers.now cells) (bound_of s.window) 0 from cells
            (λ k. operand_of s cells (0 + k)) (are_prefixes s cells placed.apart) s.quiet (omega (arith, within)) all (operands_are s 0 from cells)
            ∙ by_plus (slice_index s.registers.now s.scanned.target.at) (λ k. operand_of s cells (0 + k)) from

    module _ (long : length mine ≡ s.window.width * count) where
      abbrev part : List ℕ
      part = parted s.before.now (s.window.width * from) mine (s.window.width * (s.count - from - count)) s.behind.now

      pub goes_on : carried_by s cells (from + count) ≡ (carried_by s cells from + added s part from 0 count) % 2 ^ 64
      goes_on =
          operands_law s.scanned.laned.variable.at (stepped s.first s.by) (operator_of s) s.scanned.target.at s.scanned.exclusive s.scanned.ops.now (front_of s) (back_of s) s.count (machine s.registers.now cells) (bound_of s.window) from count part
          (λ k. operand_of s part (from + k)) (are_prefixes s cells placed.apart) s.quiet within (is_part s from count mine cells placed within long) (operands_are s from count part)
          ∙ by_plus (carried_by s cells from) (λ k. operand_of s part (from + k)) count
          ∙ adds_sum (carried_by s cells from) (λ k. operand_of s part (from + k)) count small

pub sum_is : (s : Prefixes) (from count : ℕ) (mine : List ℕ) (sum : ℕ) → ((r : ℕ) → slice_index s.registers.now r < 2 ^ 64) → from + count ≤ s.count → length mine ≡ s.window.width * count
    → sum ≡ added s (parted s.before.now (s.window.width * from) mine (s.window.width * (s.count - from - count)) s.behind.now) from 0 count → IsSum s from count mine sum
sum_is s from count mine sum fits within long is = λ cells placed. goes_on s fits from count mine cells placed within long ∙ ap (λ (n : ℕ). (carried_by s cells from + n) % 2 ^ 64) (sym is)

-- and hold what they held
pub stays : (new held old : List ℕ) → new ≡ held → held ≡ old → new ≡ old
stays new held old is same = is ∙ same
