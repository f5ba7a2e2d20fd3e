use Rattle.std.proofs.Common.{sym, ap, ◌∙◌}
use Rattle.std.specs.Prelude.{slice_index}
use Rattle.store.specs.Flat.{values_of}
use Rattle.overlay_pages.specs.Over.{or_else}
use Rattle.overlay_pages.specs.Seen.{Seen, cells_of}
use Rattle.overlay_pages.proofs.Overlays.{read_over}
use Rattle.overlay_pages.proofs.chunk.ChunkCells.read.Goals as goal

pub returns-in-Some : goal.returns-in-Some
returns-in-Some c =
    let cells = values_of c.self.inside.store.now in
    ap (λ o. or_else o (slice_index cells c.args.place)) c.in-Some.ensures
    ∙ sym (read_over c.self.inside.own cells c.args.place c.self.invariant)
    ∙ ap (λ (s : Seen). slice_index (cells_of s) c.args.place) c.self.view_is

pub returns-in-None : goal.returns-in-None
returns-in-None c =
    let cells = values_of c.self.inside.store.now in
    c.cell.ensures
    ∙ ap (λ o. or_else o (slice_index cells c.args.place)) c.in-None.ensures
    ∙ sym (read_over c.self.inside.own cells c.args.place c.self.invariant)
    ∙ ap (λ (s : Seen). slice_index (cells_of s) c.args.place) c.self.view_is
