use Rattle.nest_lines.proofs.imperfect.+is_nest.Given as goal

abbrev pub decreases-is_nest : goal.decreases-is_nest
decreases-is_nest l = l.depth
