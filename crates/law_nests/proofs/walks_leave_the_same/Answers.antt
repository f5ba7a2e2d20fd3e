use Rattle.law_nests.proofs.Walked.{walks_leave as the_law}
use Rattle.law_nests.proofs.walks_leave_the_same.Goals as goal

pub returns : goal.returns
returns c = the_law
