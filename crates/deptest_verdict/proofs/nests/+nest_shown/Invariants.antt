use Rattle.deptest_verdict.proofs.nests.+nest_shown.Given as goal

abbrev pub decreases-nest_shown : goal.decreases-nest_shown
decreases-nest_shown l = l.depth
