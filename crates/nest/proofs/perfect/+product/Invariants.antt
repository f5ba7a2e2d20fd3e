use Rattle.nest.proofs.perfect.+product.Given as goal

abbrev pub decreases-product : goal.decreases-product
decreases-product l = l.depth
