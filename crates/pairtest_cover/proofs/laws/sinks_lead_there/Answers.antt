use Rattle.pairtest_cover.proofs.Leading.{lead_there}
use Rattle.pairtest_cover.proofs.laws.sinks_lead_there.Goals as goal

pub returns : goal.returns
returns c = lead_there
