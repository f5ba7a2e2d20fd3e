use Rattle.overlay_pages.proofs.Lent.{lent_is}
use Rattle.overlay.proofs.spots.write.Goals as goal

pub returns-in-Cell-clause-store : goal.returns-in-Cell-clause-store
returns-in-Cell-clause-store c = lent_is c.write.new.self.store c.args.cells.now.store c.write.ensures.kept
