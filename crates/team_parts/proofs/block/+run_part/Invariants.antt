use Rattle.team_parts.proofs.block.+run_part.Given as goal

abbrev pub decreases-run_part : goal.decreases-run_part
decreases-run_part l = l.count
