use Rattle.flow_doacross.proofs.heads.+all_count_up.Given as goal

abbrev pub decreases-all_count_up : goal.decreases-all_count_up
decreases-all_count_up l = l.depth
