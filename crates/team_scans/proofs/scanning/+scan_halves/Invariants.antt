use Rattle.team_scans.proofs.scanning.+scan_halves.Given as goal

abbrev pub decreases-scan_halves : goal.decreases-scan_halves
decreases-scan_halves l = l.count
