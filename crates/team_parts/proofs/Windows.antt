-- Turns whose places go by the width of a window have their cells to themselves.
use Rattle.std.proofs.Common.{◌≡◌, ◌⊎◌, inl, inr, ℕ, suc, ◌+◌, ◌*◌, ◌%◌, ◌^◌, ◌<◌, ◌≤◌, true, List, [], length, sym, ap, ◌∙◌, subst, arith}
use Rattle.std.specs.Prelude.{slice_index, ◌&&◌, Contains}
use Rattle.std.specs.List.{list_all}
use Rattle.std.proofs.Math.Nat.{mul-add, mul_comm}
use Rattle.std.proofs.lemmas.Nat.{mul-le}
use Rattle.std.proofs.lemmas.Bool.{ltb-true}
use Rattle.lower_machine.specs.Machine.{machine}
use Rattle.lower_op.specs.declared.op.Op.{Op}
use Rattle.lower_op.specs.Steps.{form_sum}
use Rattle.law_lanes.specs.Reading.{loads, saves, place_of, source_of}
use Rattle.law_lanes.specs.Lanes.{are_own, entered, is_steady}
use Rattle.law_parts.specs.Parts.{IsBetween, IsBeside, KeepApart}
use Rattle.lane_rows.specs.Lanes.{stepped}
use Rattle.lane_part.specs.declared.place.Stride.{Stride}
use Rattle.lane_part.specs.Parts.{part_of, are_laned, has_room, is_room}
use Rattle.lane_part.specs.Places.{Follows, places_of, sources}
use Rattle.lane_part.proofs.Parting.{part_loads, part_saves}
use Rattle.lane_part.proofs.Marking.{first_of, second_of}
use Rattle.lane_part.proofs.Striding.{places_follow, place_follows, source_follows}
use Rattle.team_parts.specs.declared.window.Window.{Window}
use Rattle.team_parts.specs.Window.{Keeps, LiesBeside, FitsWindow, bound_of}

same_mod : (n : ℕ) → n < 2 ^ 64 → n % 2 ^ 64 ≡ n
same_mod n lt = omega arith

step_more : (step t : ℕ) → suc t * step ≡ step + t * step
step_more step t =
    let one : suc t ≡ t + 1 = omega arith in
    mul_comm (suc t) step ∙ ap (λ n. step * n) one ∙ mul-add step t 1 ∙ ap (λ n. n + step * 1) (mul_comm step t) ∙ (let e : t * step + step * 1 ≡ step + t * step = omega arith in e)

module _ (w : Window) (count : ℕ) (few : count ≤ 2 ^ 24) (room : w.low + w.width * count < 2 ^ 62) where
  width_more : (t : ℕ) → w.width * suc t ≡ w.width * t + w.width
  width_more t = let one : suc t ≡ t + 1 = omega arith in ap (λ n. w.width * n) one ∙ mul-add w.width t 1 ∙ (let e : w.width * t + w.width * 1 ≡ w.width * t + w.width = omega arith in e)

  pub width_rises : (j k : ℕ) → j ≤ k → w.width * j ≤ w.width * k
  width_rises j k le = mul-le w.width j w.width k (omega arith) le

  kept_place : (s : Stride) (t : ℕ) → Keeps w s → t < count → IsBetween (bound_of w t) (bound_of w (suc t)) (stepped s.start s.step t)
  kept_place s t keeps lt =
      let step : t * s.step ≡ w.width * t = ap (λ n. t * n) keeps.step ∙ mul_comm t w.width in
      let more = width_more t in
      let most = width_rises (suc t) count (omega (arith, lt)) in
      let low = keeps.low in
      let high = keeps.high in
      let small : s.start + t * s.step < 2 ^ 64 = omega (arith, step, more, most, high, room) in
      let is : stepped s.start s.step t ≡ s.start + t * s.step = same_mod (s.start + t * s.step) small in
      record { low = omega (arith, is, step, low); high = omega (arith, is, step, high, more) }

  place_beside : (s : Stride) (t : ℕ) → LiesBeside w count s → t < count → IsBeside (bound_of w 0) (bound_of w count) (stepped s.start s.step t)
  place_beside s t beside lt =
      let more = step_more s.step t in
      let next = mul-le (suc t) s.step count s.step (omega (arith, lt)) (omega arith) in
      let far : s.step + t * s.step ≤ count * s.step = omega (arith, more, next) in
      let most = mul-le count s.step (2 ^ 24) (2 ^ 38) few (let h = beside.step in omega (arith, h)) in
      let start = beside.start in
      let small : s.start + t * s.step < 2 ^ 64 = omega (arith, far, most, start) in
      let is : stepped s.start s.step t ≡ s.start + t * s.step = same_mod (s.start + t * s.step) small in
      let none : w.width * 0 ≡ 0 = omega arith in
      go far is none beside.aside
    where
      go : s.step + t * s.step ≤ count * s.step → stepped s.start s.step t ≡ s.start + t * s.step → w.width * 0 ≡ 0 → (s.start + count * s.step < w.low + s.step) ⊎ (w.low + w.width * count ≤ s.start) → IsBeside (bound_of w 0) (bound_of w count) (stepped s.start s.step t)
      go far is none (inl less) = inl (omega (arith, far, is, none, less))
      go far is none (inr more) = inr (omega (arith, is, more))

  module _ (variable first by : ℕ) (registers : List ℕ) (there : variable < length registers) (words : (r : ℕ) → slice_index registers r < 2 ^ 64) (cells : List ℕ) where
    follows : (op : Op) (t : ℕ) → Follows t (form_sum (part_of op).form (entered variable (stepped first by) t (machine registers cells))) (places_of variable first by registers (part_of op).form)
    follows op t = places_follow variable first by t registers cells (part_of op).form there

    pub written_there : (op : Op) (t : ℕ) → FitsWindow w variable first by count registers op → t < count → saves op ≡ true → IsBetween (bound_of w t) (bound_of w (suc t)) (place_of op (entered variable (stepped first by) t (machine registers cells)))
    written_there op t fits lt s =
        subst (IsBetween (bound_of w t) (bound_of w (suc t))) (sym (place_follows op variable first by t registers cells (places_of variable first by registers (part_of op).form) words (follows op t)))
        (kept_place (places_of variable first by registers (part_of op).form) t (fits.writes (sym (part_saves op) ∙ s)) lt)

    pub read_there : (op : Op) (t : ℕ) → FitsWindow w variable first by count registers op → t < count → loads op ≡ true
        → IsBetween (bound_of w t) (bound_of w (suc t)) (source_of op (entered variable (stepped first by) t (machine registers cells))) ⊎ IsBeside (bound_of w 0) (bound_of w count) (source_of op (entered variable (stepped first by) t (machine registers cells)))
    read_there op t fits lt l = go (fits.reads (sym (part_loads op) ∙ l))
      where
        s : Stride
        s = sources (part_of op).work (places_of variable first by registers (part_of op).form)

        is : source_of op (entered variable (stepped first by) t (machine registers cells)) ≡ stepped s.start s.step t
        is = source_follows op variable first by t registers cells (places_of variable first by registers (part_of op).form) words (follows op t)

        go : Keeps w s ⊎ LiesBeside w count s
            → IsBetween (bound_of w t) (bound_of w (suc t)) (source_of op (entered variable (stepped first by) t (machine registers cells))) ⊎ IsBeside (bound_of w 0) (bound_of w count) (source_of op (entered variable (stepped first by) t (machine registers cells)))
        go (inl keeps) = inl (subst (IsBetween (bound_of w t) (bound_of w (suc t))) (sym is) (kept_place s t keeps lt))
        go (inr beside) = inr (subst (IsBeside (bound_of w 0) (bound_of w count)) (sym is) (place_beside s t beside lt))

    pub kept_apart : (ops : List Op) → ((op : Op) → Contains ops op → FitsWindow w variable first by count registers op) → (limit : ℕ) → are_laned limit variable ops ≡ true → KeepApart variable (stepped first by) ops count (machine registers cells) (bound_of w)
    kept_apart ops fits limit laned =
        let parts = second_of (is_room limit variable && list_all (has_room limit) ops) (are_own variable ops [] ops && list_all (is_steady ops) ops) laned in
        record {
          own = first_of (are_own variable ops [] ops) (list_all (is_steady ops) ops) parts;
          steady = second_of (are_own variable ops [] ops) (list_all (is_steady ops) ops) parts;
          rise = λ j k le. let up = width_rises j k le in omega (arith, up);
          writes = λ op t among lt s. written_there op t (fits op among) lt s;
          reads = λ op t among lt l. read_there op t (fits op among) lt l;
        }

-- the variable is a register that there is
pub variable_there : (limit variable : ℕ) (ops : List Op) (registers : List ℕ) → are_laned limit variable ops ≡ true → limit ≤ length registers → variable < length registers
variable_there limit variable ops registers laned le =
    let room = first_of (is_room limit variable) (list_all (has_room limit) ops) (first_of (is_room limit variable && list_all (has_room limit) ops) (are_own variable ops [] ops && list_all (is_steady ops) ops) laned) in
    let lt = ltb-true variable limit room in
    omega (arith, lt, le)
