-- Cells side by side among those that are lent are the operands, whatever the own cells are.
use Rattle.std.proofs.Common.{◌≡◌, ◌+◌, ◌-◌, ◌*◌, ◌%◌, ◌^◌, List, ℕ, length, replicate, sym, ap, ◌∙◌, arith, rules}
use Rattle.std.specs.Prelude.{slice_index}
use Rattle.std.proofs.lemmas.List.{length-replicate}
use Rattle.lane_rows.specs.Lanes.{stepped}
use Rattle.lower_op.specs.Stretches.{IsStretch}
use Rattle.team_parts.specs.Parted.{parted}
use Rattle.team_scans.specs.Operands.{cells_of_part, operand_of}
use Rattle.team_scans.proofs.straight.operand_cells.Goals as goal

pub returns-clause-long : goal.returns-clause-long
returns-clause-long c =
    let n = c.in_ok-surroundings.surroundings.count in
    (c.in_ok-row.ensures (replicate n 0) (length-replicate n 0)).long

pub returns-clause-row : goal.returns-clause-row
returns-clause-row c own k long lt =
    let s = c.args.prefixes in
    let from = c.args.from in
    let count = c.args.count in
    let places = c.in_ok-places.places in
    let a = c.in_ok-surroundings.surroundings in
    let mine : a.count ≡ s.window.width * count = search rules in
    let row : IsStretch places.start count (parted a.before.now a.left own a.right a.behind.now) c.in_ok-row.row.now = c.in_ok-row.ensures own (long ∙ sym mine) in
    let is : parted a.before.now a.left own a.right a.behind.now ≡ cells_of_part s from count own = search rules in
    let one : places.step ≡ 1 = search rules in
    let small = row.small in
    let at : stepped places.start places.step k ≡ places.start + k = ap (λ n. stepped places.start n k) one ∙ (let e : (places.start + k * 1) % 2 ^ 64 ≡ places.start + k = omega (arith, small, lt) in e) in
    row.each k lt
    ∙ ap (λ (l : List ℕ). slice_index l (places.start + k)) is
    ∙ ap (slice_index (cells_of_part s from count own)) (sym at)
    ∙ sym (c.in_ok-places.ensures (cells_of_part s from count own) k)
