use Rattle.flow_doacross.proofs.StandLaw.{stand_alone as the_law}
use Rattle.flow_doacross.proofs.laws.nests_stand_alone.Goals as goal

pub returns : goal.returns
returns c = the_law
