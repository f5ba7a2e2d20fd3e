use Rattle.ranges.proofs.Leaving.{leaving_is_not_in_range as the_law}
use Rattle.ranges.proofs.law.leaving_is_not_in_range.Goals as goal

pub returns : goal.returns
returns c = the_law
