use Rattle.schedule.proofs.Owned.{workers_share_chunks as the_law}
use Rattle.schedule.proofs.workers_share_chunks.Goals as goal

pub returns : goal.returns
returns c = the_law
