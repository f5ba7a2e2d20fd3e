use Rattle.semantics.proofs.Rows.Numbers.{rows}
use Rattle.semantics.proofs.worked.number_rows.Goals as goal

pub returns : goal.returns
returns c = rows
