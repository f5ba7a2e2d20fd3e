use Rattle.test_run.proofs.lowering.+body_of.Given as goal

abbrev pub decreases-body_of : goal.decreases-body_of
decreases-body_of l = l.depth
