use Rattle.outline.proofs.Lookups.{ScanIsLeft}
use Rattle.outline.proofs.scanning.scan_at.Given as goal

abbrev pub invariant-loop-scan : goal.invariant-loop-scan
invariant-loop-scan l = ScanIsLeft l.scans l.line l.scan-index
