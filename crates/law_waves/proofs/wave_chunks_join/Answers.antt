use Rattle.law_waves.proofs.Doacross.{join as the_law}
use Rattle.law_waves.proofs.wave_chunks_join.Goals as goal

pub returns : goal.returns
returns c = the_law
