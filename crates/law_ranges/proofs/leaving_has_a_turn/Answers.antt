use Rattle.law_ranges.proofs.Reaching.{leaving_has_a_turn as the_law}
use Rattle.law_ranges.proofs.leaving_has_a_turn.Goals as goal

pub returns : goal.returns
returns c = the_law
