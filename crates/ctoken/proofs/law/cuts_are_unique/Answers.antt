use Rattle.ctoken.proofs.FrontLaw.{one_cut}
use Rattle.ctoken.proofs.law.cuts_are_unique.Goals as goal

pub returns : goal.returns
returns c = λ text ts us t u. one_cut t.cut u.cut
