use Rattle.semantics.proofs.Rows.Reader.{rows}
use Rattle.semantics.proofs.worked.reader_rows.Goals as goal

pub returns : goal.returns
returns c = rows
