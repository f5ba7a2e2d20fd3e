use Rattle.std.proofs.Common.{ap, ◌∙◌}
use Rattle.std.specs.Prelude.{slice_set}
use Rattle.store.specs.Flat.{values_of}
use Rattle.overlay_pages.specs.Over.{written_over, writes_in}
use Rattle.overlay_pages.specs.Seen.{Seen, cells_of}
use Rattle.overlay_pages.proofs.Overlays.{over_set}
use Rattle.overlay_pages.proofs.chunk.ChunkCells.write.Goals as goal

pub returns-clause-written : goal.returns-clause-written
returns-clause-written c =
    ap (λ l. written_over (writes_in l) (values_of c.self.inside.store.now)) c.write.ensures
    ∙ over_set c.self.inside.own (values_of c.self.inside.store.now) c.args.place c.args.n c.self.invariant
    ∙ ap (λ (s : Seen). slice_set (cells_of s) c.args.place c.args.n) c.self.view_is
