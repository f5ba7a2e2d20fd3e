use Rattle.pragma_region.proofs.sinks.+body_of.Given as goal

abbrev pub decreases-body_of : goal.decreases-body_of
decreases-body_of l = l.depth
