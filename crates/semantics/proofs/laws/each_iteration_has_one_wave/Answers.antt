use Rattle.semantics.proofs.Levels.{one_wave_each as the_law}
use Rattle.semantics.proofs.laws.each_iteration_has_one_wave.Goals as goal

pub returns : goal.returns
returns c = the_law
