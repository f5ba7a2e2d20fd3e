use Rattle.law_ranges.proofs.Within.{ranges_hold_at_turns as the_law}
use Rattle.law_ranges.proofs.ranges_hold_at_turns.Goals as goal

pub returns : goal.returns
returns c = the_law
