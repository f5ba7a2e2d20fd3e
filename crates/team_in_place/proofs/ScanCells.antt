-- The cells that the turns of a prefix sum leave alone.
use Rattle.std.proofs.Common.{◌≡◌, ◌≢◌, inl, inr, ℕ, zero, suc, ◌<◌, ◌≤◌, Bool, true, false, List, [], length, take, drop, refl, sym, ap, ◌∙◌, subst, arith}
use Rattle.std.specs.Prelude.{slice_index, slice_set, ◌==◌, not, ◌||◌, Contains}
use Rattle.std.specs.List.{AllByRecursion as Each}
use Rattle.std.proofs.lemmas.Bool.{or_right, true≢false}
use Rattle.std.proofs.lemmas.List.{get_or-set_other, length-set, take-append-drop}
use Rattle.std.proofs.lemmas.List.Elements.{Contains-append_left, Contains-append_right}
use Rattle.ktree.specs.View.{binary_of}
use Rattle.ktree.specs.declared.expression.BinaryOp.{BinaryOp}
use Rattle.lower_machine.specs.Machine.{Machine, machine, operate_or_zero}
use Rattle.lower_op.specs.declared.op.Op.{Op}
use Rattle.law_lanes.specs.Reading.{saves, is_written}
use Rattle.law_lanes.specs.Lanes.{entered, turns}
use Rattle.law_lanes.proofs.Ops.{at, place_at}
use Rattle.law_lanes.proofs.Swap.{reg, cel, Fine, Stay, stays_steps}
use Rattle.law_lanes.proofs.Turning.{Alike}
use Rattle.law_lanes.proofs.Lanes.{Outside, each_there, fine_there, begins_alike}
use Rattle.law_parts.specs.Parts.{IsBetween, IsBeside, KeepApart}
use Rattle.law_parts.proofs.Frames.{WritesNot, cells_count, kept_cell}
use Rattle.law_prefixes.specs.Prefixes.{left_in, read_of}
use Rattle.lane_rows.specs.Lanes.{stepped}
use Rattle.lane_body.specs.Scanning.{IsScanned}
use Rattle.lower_lanes.proofs.Scanned.{outside_scanned, written_all}

module _ (variable : ℕ) (operator : BinaryOp) (to : ℕ) (exclusive : Bool) (front : ℕ) (ops lanes : List Op) (h : IsScanned variable operator to exclusive front ops lanes)
    (first by n : ℕ) (m : Machine) (bound : ℕ → ℕ) (apart : KeepApart variable (stepped first by) lanes n m bound) (inside : to < length m.registers) where
  abbrev head : List Op
  head = take front lanes

  abbrev tail : List Op
  tail = drop front lanes

  head_there : (a : Op) → Contains head a → Contains lanes a
  head_there a there = subst (λ (l : List Op). Contains l a) (take-append-drop front lanes) (Contains-append_left head tail a there)

  tail_there : (a : Op) → Contains tail a → Contains lanes a
  tail_there a there = subst (λ (l : List Op). Contains l a) (take-append-drop front lanes) (Contains-append_right head tail a there)

  head_fine : Each (Fine lanes) head
  head_fine = each_there (Fine lanes) head (λ a there. fine_there lanes apart.steady a (head_there a there))

  tail_fine : Each (Fine lanes) tail
  tail_fine = each_there (Fine lanes) tail (λ a there. fine_there lanes apart.steady a (tail_there a there))

  away : (x : ℕ) → is_written lanes x ≡ false → x ≢ to
  away x free is = true≢false (sym (written_all variable operator to exclusive front ops lanes h) ∙ ap (is_written lanes) (sym is) ∙ free)

  -- ---- one turn

  module _ (r c : List ℕ) (wide : to < length r) where
    abbrev read : ℕ
    read = read_of exclusive (slice_index r to) (operate_or_zero (binary_of operator) (slice_index r to) (left_in to head (machine r c)))

    abbrev middle : List ℕ
    middle = slice_set (reg head r c) to read

    turn_cells : cel ops r c ≡ cel tail middle (cel head r c)
    turn_cells = ap (λ (x : Machine). x.cells) (h.prefix.turn (machine r c) wide)

    turn_count : length (cel ops r c) ≡ length c
    turn_count = ap length turn_cells ∙ cells_count tail middle (cel head r c) ∙ cells_count head r c

    stays_middle : Stay lanes r middle
    stays_middle = λ x w. stays_steps lanes head r c head_fine x w ∙ sym (get_or-set_other (reg head r c) to x read 0 (away x w))

    -- a cell that no instruction writes is as before
    turn_keeps : (q : ℕ) (r0 : List ℕ) → Stay lanes r0 r → ((a : Op) → Contains lanes a → saves a ≡ true → at a r0 ≡ q → ⊥) → slice_index (cel ops r c) q ≡ slice_index c q
    turn_keeps q r0 stay none =
        ap (λ (l : List ℕ). slice_index l q) turn_cells
        ∙ kept_cell lanes r0 q tail middle (cel head r c) tail_fine (λ x w. stay x w ∙ stays_middle x w) (each_there (WritesNot lanes (λ p. p ≡ q) r0) tail (λ a there s e. none a (tail_there a there) s e))
        ∙ kept_cell lanes r0 q head r c head_fine stay (each_there (WritesNot lanes (λ p. p ≡ q) r0) head (λ a there s e. none a (head_there a there) s e))

  -- ---- turn after turn

  abbrev whole : ℕ → Machine
  whole k = turns variable (stepped first by) ops k m

  outside_whole : (k : ℕ) → Outside variable lanes (whole k).registers m.registers
  outside_whole k = outside_scanned variable operator to exclusive front ops lanes h apart.steady first by m inside k

  -- the registers in which a turn makes its places, and those with which it begins
  abbrev lane : ℕ → List ℕ
  lane k = (entered variable (stepped first by) k m).registers

  abbrev opened : ℕ → List ℕ
  opened k = slice_set (whole k).registers variable (stepped first by k)

  wide_opened : (k : ℕ) → to < length (opened k)
  wide_opened k =
      let a = length-set (whole k).registers variable (stepped first by k) in
      let b = (outside_whole k).count in
      omega (arith, a, b, inside)

  stays : (r s : List ℕ) → Alike variable lanes [] r s → Stay lanes r s
  stays r s alike = λ x w. alike.own x (subst (λ b. (((variable == x) || false) || not b) ≡ true) (sym w) (or_right ((variable == x) || false) true refl))

  opens : (k : ℕ) → Stay lanes (lane k) (opened k)
  opens k = stays (lane k) (opened k) (begins_alike variable lanes (whole k).registers m.registers (stepped first by k) (outside_whole k))

  pub count_whole : (k : ℕ) → length (whole k).cells ≡ length m.cells
  count_whole zero = refl
  count_whole (suc k) = turn_count (opened k) (whole k).cells (wide_opened k) ∙ count_whole k

  -- no turn's own
  beside_each : (q : ℕ) → IsBeside (bound 0) (bound n) q → (t : ℕ) → t < n → IsBetween (bound t) (bound (suc t)) q → ⊥
  beside_each q (inl lt) t within own = let rise = apart.rise 0 t (omega arith) in let low = own.low in absurd (omega (arith, lt, rise, low))
  beside_each q (inr le) t within own = let rise = apart.rise (suc t) n (omega (arith, within)) in let high = own.high in absurd (omega (arith, le, rise, high))

  kept_so_far : (q k : ℕ) → IsBeside (bound 0) (bound n) q → k ≤ n → slice_index (whole k).cells q ≡ slice_index m.cells q
  kept_so_far q zero beside le = refl
  kept_so_far q (suc k) beside le =
      let lt : k < n = omega (arith, le) in
      turn_keeps (opened k) (whole k).cells (wide_opened k) q (lane k) (opens k)
      (λ a there s e. beside_each q beside k lt (subst (IsBetween (bound k) (bound (suc k))) (place_at a (lane k) m.cells ∙ e) (apart.writes a k there lt s)))
      ∙ kept_so_far q k beside (omega (arith, le))

  -- turns leave all cells but those of their own places
  pub others_left : (q : ℕ) → IsBeside (bound 0) (bound n) q → slice_index (whole n).cells q ≡ slice_index m.cells q
  others_left q beside = kept_so_far q n beside (omega arith)
