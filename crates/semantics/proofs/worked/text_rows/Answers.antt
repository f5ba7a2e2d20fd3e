use Rattle.semantics.proofs.Rows.Texts.{rows}
use Rattle.semantics.proofs.worked.text_rows.Goals as goal

pub returns : goal.returns
returns c = rows
