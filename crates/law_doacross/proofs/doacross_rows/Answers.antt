use Rattle.law_doacross.proofs.Rows.{doacross_rows as the_rows}
use Rattle.law_doacross.proofs.doacross_rows.Goals as goal

pub returns : goal.returns
returns c = the_rows
