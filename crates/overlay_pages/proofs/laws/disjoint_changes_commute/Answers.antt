use Rattle.overlay_pages.proofs.Overlays.{over_commutes}
use Rattle.overlay_pages.proofs.laws.disjoint_changes_commute.Goals as goal

pub returns : goal.returns
returns c = over_commutes
