use Rattle.std.proofs.Common.{sym}
use Rattle.semantics.specs.Source.Text.{line_at}
use Rattle.pragma.proofs.LoopLaw.{no_form}
use Rattle.pragma.proofs.lines.Directives.form.Goals as goal

pub returns-in-None : goal.returns-in-None
returns-in-None c = sym (no_form (line_at c.args.self.now c.args.place.line) c.in-None.ensures)
