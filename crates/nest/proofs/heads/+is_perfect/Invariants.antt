use Rattle.nest.proofs.heads.+is_perfect.Given as goal

abbrev pub decreases-is_perfect : goal.decreases-is_perfect
decreases-is_perfect l = l.depth
