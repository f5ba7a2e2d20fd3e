use Rattle.pragma.proofs.LoopLaw.{memory_alone}
use Rattle.pragma.proofs.reading.too_large.Goals as goal

pub returns-in-Err-clause-err : goal.returns-in-Err-clause-err
returns-in-Err-clause-err c = memory_alone c.args.line.now c.args.place c.in-Err.refusal c.requires c.in-Err.ensures.err
