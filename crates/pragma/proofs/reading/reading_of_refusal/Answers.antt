use Rattle.pragma.proofs.LoopLaw.{too_large, malformed}
use Rattle.pragma.proofs.reading.reading_of_refusal.Goals as goal

pub too_large-requires : goal.too_large-requires
too_large-requires c = too_large c.args.line.now c.args.place c.in-Limit.field-0 c.args.refusal.now c.in-Limit.is c.requires

pub returns-in_default : goal.returns-in_default
returns-in_default c = record { ok = malformed c.args.line.now c.args.place c.args.refusal.now c.in_default.not-OutOfMemory c.in_default.not-Limit c.requires; err = tt }
