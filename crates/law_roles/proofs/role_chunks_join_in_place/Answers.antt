use Rattle.law_roles.proofs.Joining.{join_in_place}
use Rattle.law_roles.proofs.role_chunks_join_in_place.Goals as goal

pub returns : goal.returns
returns c = join_in_place
