use Rattle.std.proofs.Common.{ℕ, List, map, sym, ap, ◌∙◌}
use Rattle.std.specs.Prelude.{slice_set}
use Rattle.store.specs.Kept.{Kept}
use Rattle.store.specs.Flat.{values_of}
use Rattle.lower_machine.specs.Machine.{machine}
use Rattle.lower_op.proofs.Refilled.{filled_values, filled_lengths}
use Rattle.overlay.proofs.Back.{set_length}
use Rattle.overlay.specs.Spots.{with_at}
use Rattle.team_log.proofs.putting.write.Goals as goal

pub returns-in-Cell-clause-written : goal.returns-in-Cell-clause-written
returns-in-Cell-clause-written c =
    let ks = c.args.store.now in
    let cells = slice_set (values_of ks) c.in-Cell.place c.args.value in
    ap (λ (l : List Kept). machine c.args.registers.now (values_of l)) c.put.ensures
    ∙ ap (λ (l : List ℕ). machine c.args.registers.now l) (filled_values cells ks (set_length (values_of ks) c.in-Cell.place c.args.value))
    ∙ ap (λ at. with_at at c.args.value (machine c.args.registers.now (values_of ks))) (sym c.in-Cell.is)

pub returns-in-Cell-clause-shape : goal.returns-in-Cell-clause-shape
returns-in-Cell-clause-shape c =
    let ks = c.args.store.now in
    let cells = slice_set (values_of ks) c.in-Cell.place c.args.value in
    ap (λ (l : List Kept). map {A = Kept} {B = List ℕ} (λ k. k.lengths) l) c.put.ensures ∙ filled_lengths cells ks
