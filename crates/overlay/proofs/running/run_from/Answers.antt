use Rattle.std.proofs.Common.{ℕ, Bool, List, [], length, sym, ap, ◌∙◌, subst}
use Rattle.nest_space.specs.Space.{vectors}
use Rattle.store.specs.Kept.{Kept}
use Rattle.store.specs.Flat.{values_of}
use Rattle.lower_machine.specs.Machine.{Machine, machine, running}
use Rattle.lower.specs.declared.roles.LoweredReduction.{LoweredReduction}
use Rattle.overlay_pages.specs.Over.{writes_in}
use Rattle.overlay_pages.specs.Seen.{Seen, cells_of}
use Rattle.overlay_pages.proofs.Overlays.{length_over}
use Rattle.overlay.specs.Walking.{WalksOver}
use Rattle.overlay.specs.Spots.{begun_by, back_at_each, reduced_at}
use Rattle.overlay.specs.Ending.{IsTold}
use Rattle.overlay.specs.Positions.{has_last}
use Rattle.overlay.specs.Running.{part_of}
use Rattle.overlay.proofs.running.run_from.Goals as goal

pub returns-clause-ran : goal.returns-clause-ran
returns-clause-ran c =
    let l = c.args.lowered.now in
    let cells = c.run_iterations.new.cells in
    let behind : Machine = machine c.run_iterations.new.registers (cells_of cells) in
    let start : Machine = machine c.args.registers.now (cells_of c.args.cells.now) in
    let near = c.bring_near.ensures in
    let stores = c.run_iterations.ensures.store ∙ ap (λ (seen : Seen). seen.store) near ∙ c.begin.ensures.store in
    record {
      word = c.confirm_word.ensures;
      behind = behind;
      walks =
          subst (λ (text : List ℕ). WalksOver l (part_of c.args.space.now c.args.order c.args.work) (running (begun_by c.args.start l.roles.reductions.items start) []) (running behind text)) (ap (λ t. t.bytes) (sym c.in_ok-told.ensures.text))
          (subst (λ m. WalksOver l (part_of c.args.space.now c.args.order c.args.work) (running m []) (running behind c.in_ok-text.text.bytes)) (ap (λ (seen : Seen). machine c.begin.new.registers (cells_of seen)) near ∙ c.begin.ensures.begun ∙ ap (λ (ls : List LoweredReduction). begun_by c.args.start ls start) c.as_slice-reductions.ensures.value) c.in_ok-text.ensures.walked);
      room = length_over (writes_in cells.written) (values_of cells.store) ∙ ap (λ (ks : List Kept). length (values_of ks)) stores;
      told_of =
          subst (λ (ks : List Kept). IsTold l.roles c.args.start (has_last c.args.order (vectors c.args.space.now) c.args.work) (machine c.args.before.now (values_of ks)) behind c.in_ok-told.told) stores
          (subst (λ (b : Bool). IsTold l.roles c.args.start b (machine c.args.before.now (values_of cells.store)) behind c.in_ok-told.told) c.has_last-has_last.ensures c.in_ok-told.ensures.told);
      back = c.put_roles_back.ensures.back
          ∙ ap (λ (ks : List Kept). back_at_each (values_of ks) (reduced_at l.roles.reductions.items) (back_at_each (values_of ks) l.roles.lasts.items behind.cells)) stores;
    }
