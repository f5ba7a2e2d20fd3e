use Rattle.overlay_pages.proofs.Beside.{ones_are}
use Rattle.overlay_pages.proofs.rows.ones.Goals as goal

pub returns : goal.returns
returns c = ones_are c.args.from c.args.count c.requires.some c.requires.few
