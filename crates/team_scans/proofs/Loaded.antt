-- The operands of turns that do no more than load them.
use Rattle.std.proofs.Common.{◌≡◌, ◌⊎◌, inl, inr, ℕ, ◌+◌, ◌^◌, ◌<◌, ◌≤◌, Bool, true, false, List, [], ◌∷◌, ◌++◌, length, refl, sym, ap, ◌∙◌, subst, arith}
use Rattle.std.specs.Prelude.{slice_index, slice_set, ◌||◌}
use Rattle.std.specs.List.{list_all}
use Rattle.std.proofs.lemmas.Bool.{ltb-true}
use Rattle.std.proofs.lemmas.List.{get_or-set_same, length-set}
use Rattle.lower_machine.specs.declared.term.Register.{Register}
use Rattle.lower_machine.specs.Machine.{Machine, machine}
use Rattle.lower_op.specs.declared.op.Op.{Op}
use Rattle.lower_op.specs.declared.op.Op.TheVariants.{Move}
use Rattle.lower_op.specs.Steps.{step, steps, target}
use Rattle.law_lanes.specs.Reading.{reads, saves}
use Rattle.law_lanes.proofs.Ops.{at}
use Rattle.law_prefixes.specs.Prefixes.{left_in}
use Rattle.lane_rows.specs.Lanes.{stepped}
use Rattle.lane_part.specs.declared.part.Part.{Part}
use Rattle.lane_part.specs.declared.part.Work.TheVariants.{Load}
use Rattle.lane_part.specs.declared.place.Stride.{Stride}
use Rattle.lane_part.specs.Parts.{has_room, is_room, part_of}
use Rattle.lane_part.specs.Places.{places_of}
use Rattle.lane_part.proofs.Marking.{first_of, second_of}
use Rattle.lane_part.proofs.Parting.{part_target}
use Rattle.lane_part.proofs.Striding.{place_follows, stride_follows}
use Rattle.lower_lanes.specs.Products.{LoadsCell}
use Rattle.lower_lanes.specs.Saved.{IsOperand, Moves}
use Rattle.lower_lanes.specs.Tails.{AreOf}
use Rattle.lower_lanes.proofs.Factors.{one_step, saves_none}
use Rattle.lane_body.proofs.InLanes.{laned_variable}
use Rattle.team_scans.specs.declared.prefixes.Prefixes.{Prefixes}
use Rattle.team_scans.specs.Operands.{operand_of}
use Rattle.team_scans.proofs.Blocks.{front_of, numbers_from, target_there}
use Rattle.team_scans.proofs.Sums.{front_fits, parts_fit}

-- what stands in a register behind its move, where it stood before it in another one
moved_number : (ops : List Op) (to from : Register) (n : ℕ) (r c : List ℕ) → Moves ops to from → to.at < length r → slice_index r from.at ≡ n → slice_index (steps ops (machine r c)).registers to.at ≡ n
moved_number ops to from n r c h inside is = go h.ways
  where
    go : ((ops ≡ []) × (to ≡ from)) ⊎ (ops ≡ Move to from ∷ []) → slice_index (steps ops (machine r c)).registers to.at ≡ n
    go (inl w) =
        ap (λ (o : List Op). slice_index (steps o (machine r c)).registers to.at) w.0
        ∙ ap (λ (q : Register). slice_index r q.at) w.1
        ∙ is
    go (inr e) =
        ap (λ (o : List Op). slice_index (steps o (machine r c)).registers to.at) e
        ∙ get_or-set_same r to.at (slice_index r from.at) 0 inside
        ∙ is

-- an instruction that loads a cell writes one of the first so many registers
load_inside : (limit : ℕ) (op : Op) (load : Part) → part_of op ≡ load → (part_of op).work ≡ Load → list_all (has_room limit) (op ∷ []) ≡ true → load.to.at < limit
load_inside limit op load is work room =
    ltb-true load.to.at limit
    (ap (is_room limit) (sym (part_target op ∙ ap (λ (p : Part). p.to.at) is))
    ∙ ap (λ (b : Bool). b || is_room limit (target op)) (sym rests)
    ∙ second_of (list_all (is_room limit) (reads op)) (saves op || is_room limit (target op)) (first_of (has_room limit op) true room))
  where
    rests : saves op ≡ false
    rests = saves_none op [] [] Load work refl

-- turns over registers with numbers of 64 bits
module _ (variable first by limit : ℕ) (front made moved : List Op) (to source : Register) (operand : IsOperand front made moved to source) (load : Part) (h : LoadsCell made source.at load)
    (room : list_all (has_room limit) made ≡ true) (registers : List ℕ) (wide : limit ≤ length registers) (there : variable < length registers) (to_inside : to.at < length registers) (fits : (r : ℕ) → slice_index registers r < 2 ^ 64) where
  abbrev places : Stride
  places = places_of variable first by registers load.form

  source_inside : source.at < length registers
  source_inside =
      let low = load_inside limit h.only load h.part (ap (λ (p : Part). p.work) h.part ∙ h.work) (sym (ap (list_all (has_room limit)) h.all) ∙ room) in
      let is = h.there in
      omega (arith, low, is, wide)

  module _ (cells : List ℕ) (k : ℕ) where
    abbrev now : List ℕ
    now = slice_set registers variable (stepped first by k)

    abbrev cell : ℕ
    cell = slice_index cells (stepped places.start places.step k)

    now_long : length now ≡ length registers
    now_long = length-set registers variable (stepped first by k)

    place_is : at h.only now ≡ stepped places.start places.step k
    place_is =
        place_follows h.only variable first by k registers [] (places_of variable first by registers (part_of h.only).form) fits
        (stride_follows variable first by registers (part_of h.only).form (places_of variable first by registers (part_of h.only).form) refl there [] k)
        ∙ ap (λ (p : Part). stepped (places_of variable first by registers p.form).start (places_of variable first by registers p.form).step k) h.part

    loaded : step h.only (machine now cells) ≡ machine (slice_set now source.at cell) cells
    loaded =
        one_step h.only now cells Load (ap (λ (p : Part). p.work) h.part ∙ h.work) refl
        ∙ ap (λ (x : ℕ). machine (slice_set now (part_of h.only).to.at (slice_index cells x)) cells) place_is
        ∙ ap (λ (t : ℕ). machine (slice_set now t cell) cells) (ap (λ (p : Part). p.to.at) h.part ∙ h.there)

    ran : steps front (machine now cells) ≡ steps moved (machine (slice_set now source.at cell) cells)
    ran =
        ap (λ (o : List Op). steps o (machine now cells)) (operand.whole ∙ ap (λ (o : List Op). o ++ moved) h.all)
        ∙ ap (steps moved) loaded

    pub left_loaded : left_in to.at front (machine now cells) ≡ cell
    left_loaded =
        let source_now : source.at < length now = omega (arith, source_inside, now_long) in
        let to_now : to.at < length (slice_set now source.at cell) = omega (arith, to_inside, now_long, length-set now source.at cell) in
        ap (λ (m : Machine). slice_index m.registers to.at) ran
        ∙ moved_number moved to source cell (slice_set now source.at cell) cells operand.moves to_now (get_or-set_same now source.at cell 0 source_now)

-- the operands of turns from one on
pub operand_loaded : (s : Prefixes) → ((r : ℕ) → slice_index s.registers.now r < 2 ^ 64) → (made moved : List Op) (source : Register) → IsOperand (front_of s) made moved s.scanned.target source → (load : Part) → LoadsCell made source.at load
    → (a : Stride) → a ≡ places_of s.scanned.laned.variable.at s.first s.by s.registers.now load.form → (from start : ℕ) → start ≡ stepped a.start a.step from → (cells : List ℕ) (k : ℕ) → operand_of s cells (from + k) ≡ slice_index cells (stepped start a.step k)
operand_loaded s fits made moved source operand load h a is from start begins cells k =
    let l = s.scanned.laned in
    let low = laned_variable l.limit l.variable.at l.ops.now l.laned in
    let wide = s.wide in
    let there : l.variable.at < length s.registers.now = omega (arith, low, wide) in
    let both = parts_fit l.limit l.ops.now made moved (subst (AreOf l.limit l.ops.now) operand.whole (front_fits s)) in
    left_loaded l.variable.at s.first s.by l.limit (front_of s) made moved s.scanned.target source operand load h both.0.room s.registers.now wide there (target_there s) fits cells (from + k)
    ∙ ap (λ (b : Stride). slice_index cells (stepped b.start b.step (from + k))) (sym is)
    ∙ ap (λ (place : ℕ → ℕ). slice_index cells (place k)) (sym (numbers_from a.start a.step from start begins))
