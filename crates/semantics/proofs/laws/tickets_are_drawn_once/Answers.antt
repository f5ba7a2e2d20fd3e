use Rattle.semantics.proofs.TicketLaw.{draws_each_once as the_law}
use Rattle.semantics.proofs.laws.tickets_are_drawn_once.Goals as goal

pub returns : goal.returns
returns c = the_law
