use Rattle.std.proofs.Common.{◌∙◌}
use Rattle.store.specs.Flat.{values_of}
use Rattle.overlay_pages.specs.Over.{writes_in, changing}
use Rattle.overlay_pages.proofs.Overlays.{over_same, over_changing}
use Rattle.overlay_pages.proofs.laws.changes_leave_what_the_chunk_saw.Goals as goal

pub returns : goal.returns
returns c chunk w same =
    over_same w (changing (writes_in chunk.written) (values_of chunk.store)) (values_of chunk.store) same
    ∙ over_changing (writes_in chunk.written) (values_of chunk.store)
