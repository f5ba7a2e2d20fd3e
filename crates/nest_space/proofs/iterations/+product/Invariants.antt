use Rattle.std.proofs.Common.{length}
use Rattle.nest_space.proofs.iterations.+product.Given as goal

abbrev pub decreases-product : goal.decreases-product
decreases-product l = length l.loops.now
