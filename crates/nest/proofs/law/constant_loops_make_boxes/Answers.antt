use Rattle.nest.proofs.Constant.{constant_loops_make_boxes as the_law}
use Rattle.nest.proofs.law.constant_loops_make_boxes.Goals as goal

pub returns : goal.returns
returns c = the_law
