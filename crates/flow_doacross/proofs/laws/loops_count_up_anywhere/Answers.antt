use Rattle.flow_doacross.proofs.CountLaw.{count_up_anywhere as the_law}
use Rattle.flow_doacross.proofs.laws.loops_count_up_anywhere.Goals as goal

pub returns : goal.returns
returns c = the_law
