-- A counted loop whose number in a cell was kept in a register.
use Rattle.std.proofs.Common.{◌≡◌, ℕ, zero, suc, ◌+◌, ◌-◌, List, [], ◌∷◌, ◌++◌, length, take, refl, sym, ap, ◌∙◌, arith}
use Rattle.std.specs.Prelude.{slice_index, slice_set}
use Rattle.std.proofs.lemmas.List.{length-append, length-set}
use Rattle.semantics.specs.Meaning.Runs.{greatest_trip_count}
use Rattle.lower_machine.specs.Machine.{Machine, machine, running}
use Rattle.lower_op.specs.declared.op.Op.{Op}
use Rattle.law_lanes.specs.Lanes.{turns}
use Rattle.law_lanes.proofs.Lanes.{steps_length}
use Rattle.lane_rows.specs.Lanes.{stepped}
use Rattle.lane_body.specs.Counted.{counts}
use Rattle.lane_body.specs.declared.counted.Course.{Course}
use Rattle.lane_body.specs.declared.counted.Counted.{Counted}
use Rattle.lane_promotion.specs.Promotion.{StandsFor, without_number}
use Rattle.lane_promotion.specs.declared.promotion.Promotion.{Promotion}
use Rattle.team_in_place.specs.Counting.{counted}
use Rattle.team_in_place.specs.Scanning.{AreManyTurns}
use Rattle.team_in_place.specs.declared.planning.Rise.{Rise}
use Rattle.team_in_place.proofs.Spins.{counted_law}

-- turns leave as many registers as there were
turns_length : (variable : ℕ) (value : ℕ → ℕ) (ops : List Op) (n : ℕ) (m : Machine) → length (turns variable value ops n m).registers ≡ length m.registers
turns_length variable value ops zero m = refl
turns_length variable value ops (suc n) m =
    let t : Machine = turns variable value ops n m in
    steps_length ops (slice_set t.registers variable (value n)) t.cells ∙ length-set t.registers variable (value n) ∙ turns_length variable value ops n m

-- one more than before, where one was put behind them
pub one_more : (variable : ℕ) (value : ℕ → ℕ) (ops : List Op) (n last : ℕ) (registers own cells end cells' : List ℕ) → own ≡ registers ++ last ∷ [] → machine end cells' ≡ turns variable value ops n (machine own cells)
    → length end ≡ length registers + 1
one_more variable value ops n last registers own cells end cells' is ran =
    ap (λ (m : Machine). length m.registers) ran ∙ turns_length variable value ops n (machine own cells) ∙ ap length is ∙ length-append registers (last ∷ [])

module _ (c : Counted) (registers cells : List ℕ) (t : Rise) (p : Promotion) (many : AreManyTurns c registers t)
    (stands : StandsFor c.variable.at (stepped t.first t.by) c.ops.items t.count (machine registers cells) p)
    (own end cells' rs cells'' : List ℕ) (is_own : own ≡ registers ++ slice_index cells p.place ∷ [])
    (ran : machine end cells' ≡ turns c.variable.at (stepped t.first t.by) p.ops.items t.count (machine own cells))
    (is_rs : rs ≡ take (length end - 1) end) (is_cells : cells'' ≡ slice_set cells' p.place (slice_index end (length end - 1))) where
  abbrev promoted : Machine → Machine
  promoted m = turns c.variable.at (stepped t.first t.by) p.ops.items t.count m

  last : length end - 1 ≡ length registers
  last = let e = one_more c.variable.at (stepped t.first t.by) p.ops.items t.count (slice_index cells p.place) registers own cells end cells' is_own ran in omega (arith, e)

  did : machine rs cells'' ≡ turns c.variable.at (stepped t.first t.by) c.ops.items t.count (machine registers cells)
  did =
      ap (λ r. machine r cells'') is_rs
      ∙ ap (machine (take (length end - 1) end)) is_cells
      ∙ ap (λ k. machine (take k end) (slice_set cells' p.place (slice_index end k))) last
      ∙ ap (without_number p.place (length registers)) ran
      ∙ ap (λ r. without_number p.place (length registers) (promoted (machine r cells))) is_own
      ∙ sym stands.leaves

  pub promoted_turns : (text : List ℕ) → counted c (running (machine registers cells) text) ≡ running (machine (slice_set rs c.variable.at t.next) cells'') text
  promoted_turns text =
      ap (λ (u : Course). counts greatest_trip_count u c.ops.items c.variable c.end c.by (running (machine registers cells) text)) many.up
      ∙ counted_law c.ops.items c.variable c.end c.by registers cells t.first t.by t.count t.next many.turns rs cells'' did text
