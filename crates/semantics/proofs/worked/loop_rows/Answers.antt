use Rattle.semantics.proofs.Rows.Loops.{rows}
use Rattle.semantics.proofs.worked.loop_rows.Goals as goal

pub returns : goal.returns
returns c = rows
