use Rattle.std.proofs.Common.{ℕ, List, Option, None, length, replicate, sym, ap, ◌∙◌}
use Rattle.store.specs.Kept.{Kept}
use Rattle.store.specs.Flat.{values_of}
use Rattle.overlay_pages.specs.Over.{writes_of, written_over}
use Rattle.overlay_pages.specs.Seen.{cells_of}
use Rattle.overlay_pages.proofs.Lent.{unwritten_cells}
use Rattle.overlay.proofs.Chunked.{chunk_of, last_of}
use Rattle.overlay.proofs.worker.run_whole.Goals as goal

-- nothing is written over these
abbrev nothing_over : List Kept → List (Option ℕ)
nothing_over ks = replicate (length (values_of ks)) None

pub returns-in_ok-finish-in-Ok-clause-leaves : goal.returns-in_ok-finish-in-Ok-clause-leaves
returns-in_ok-finish-in-Ok-clause-leaves c =
    let p = c.in_ok-finish-in-Ok.field-0 in
    chunk_of c.args.lowered.now c.args.registers.now c.args.cells.now.store c.args.space.now c.args.order c.args.work c.args.start c.in-Ok.told (cells_of c.run_copied.new.cells) c.requires.space c.in-Ok.ensures.ran p
    (ap (λ (ks : List Kept). written_over (writes_of p.changes) (values_of ks)) (sym c.run_copied.ensures.store) ∙ c.in_ok-finish-in-Ok.ensures.leave) c.in_ok-finish-in-Ok.ensures.partials c.in_ok-finish-in-Ok.ensures.text

pub returns-in_ok-finish-in-Ok-clause-last : goal.returns-in_ok-finish-in-Ok-clause-last
returns-in_ok-finish-in-Ok-clause-last c =
    last_of c.args.lowered.now c.args.registers.now c.args.cells.now.store c.args.space.now c.args.order c.args.work c.args.start c.in-Ok.told (cells_of c.run_copied.new.cells) c.requires.space c.in-Ok.ensures.ran
    c.in_ok-finish-in-Ok.field-0 c.in_ok-finish-in-Ok.ensures.lasts

pub returns-in-Err-clause-unwritten : goal.returns-in-Err-clause-unwritten
returns-in-Err-clause-unwritten c = c.clear.ensures.none ∙ ap nothing_over (sym c.clear.ensures.store)

pub run_copied-requires-clause-unwritten : goal.run_copied-requires-clause-unwritten
run_copied-requires-clause-unwritten c = unwritten_cells c.args.cells.now.written (length (values_of c.args.cells.now.store)) (values_of c.args.cells.now.store) c.requires.unwritten
