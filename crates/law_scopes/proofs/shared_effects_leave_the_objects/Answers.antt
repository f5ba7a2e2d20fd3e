use Rattle.law_scopes.proofs.Shared.{shares as the_law}
use Rattle.law_scopes.proofs.shared_effects_leave_the_objects.Goals as goal

pub returns : goal.returns
returns c = the_law
