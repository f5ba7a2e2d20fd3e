use Rattle.semantics.proofs.Rows.Outputs.{rows}
use Rattle.semantics.proofs.worked.output_rows.Goals as goal

pub returns : goal.returns
returns c = rows
