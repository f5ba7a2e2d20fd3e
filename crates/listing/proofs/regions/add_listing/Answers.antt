use Rattle.ktree.specs.View.{kernel_of}
use Rattle.listing.proofs.TextLaw.{listed_ok}
use Rattle.listing.proofs.regions.add_listing.Goals as goal

pub returns-clause-added : goal.returns-clause-added
returns-clause-added c =
    listed_ok c.add_parts.result c.is_err.result c.args.kernel.now.text (kernel_of c.args.kernel.now.kernel) _ _ _ c.is_err.ensures.value c.if-is_err.false c.declarations-accepted.ensures.sound.passed.directed c.regions.ensures
    c.add_parts.ensures.added
