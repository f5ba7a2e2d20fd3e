use Rattle.std.proofs.Common.{sym, subst}
use Rattle.pragma.specs.Reading.{IsReading}
use Rattle.pragma.proofs.LoopLaw.{form_of_reading, no_form}
use Rattle.pragma.proofs.reading.Reading.form.Goals as goal

pub returns-in-Malformed : goal.returns-in-Malformed
returns-in-Malformed c = λ line h. sym (no_form line (subst (IsReading line) c.in-Malformed.is h))

pub returns-in-Read : goal.returns-in-Read
returns-in-Read c = λ line h. sym (form_of_reading line c.args.self.now c.in-Read.directive c.in-Read.is h)
