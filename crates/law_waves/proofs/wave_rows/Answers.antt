use Rattle.law_waves.proofs.Rows.{rows}
use Rattle.law_waves.proofs.wave_rows.Goals as goal

pub returns : goal.returns
returns c = rows
