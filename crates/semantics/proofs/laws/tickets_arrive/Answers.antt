use Rattle.semantics.proofs.TicketLaw.{tickets_arrive as the_law}
use Rattle.semantics.proofs.laws.tickets_arrive.Goals as goal

pub returns : goal.returns
returns c = the_law
