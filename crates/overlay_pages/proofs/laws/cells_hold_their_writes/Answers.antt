use Rattle.overlay_pages.proofs.Overlays.{get_over}
use Rattle.overlay_pages.proofs.laws.cells_hold_their_writes.Goals as goal

pub returns : goal.returns
returns c = get_over
