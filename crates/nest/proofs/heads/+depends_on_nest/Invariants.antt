use Rattle.nest.proofs.heads.+depends_on_nest.Given as goal

abbrev pub decreases-depends_on_nest : goal.decreases-depends_on_nest
decreases-depends_on_nest l = l.depth
