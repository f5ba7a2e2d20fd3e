use Rattle.law_scans.proofs.Rows.{rows}
use Rattle.law_scans.proofs.scan_rows.Goals as goal

pub returns : goal.returns
returns c = rows
