-- The rows, by computing.
use Rattle.std.proofs.Common.{refl}
use Rattle.law_scans.specs.Rows.{ScanRows}

pub rows : ScanRows
rows = record { whole = refl; inclusive = refl; exclusive = refl; turned = refl; other = refl; assigned = refl; shared = refl; first = refl }
