use Rattle.law_parts.proofs.Lanes.{lanes_law}
use Rattle.law_parts.proofs.turns_apart_are_lanes.Goals as goal

pub returns : goal.returns
returns c = lanes_law
