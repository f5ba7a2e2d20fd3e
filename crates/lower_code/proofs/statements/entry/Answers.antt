use Rattle.std.proofs.Common.{refl}
use Rattle.ktree.specs.View.{source_of}
use Rattle.lower_machine.specs.declared.term.Code.{Set}
use Rattle.lower_code.proofs.Whole.{declaration_means}
use Rattle.lower_code.proofs.statements.entry.Goals as goal

pub returns : goal.returns
returns c =
    declaration_means c.args.layout.now c.args.head.now.variable.0 (source_of c.args.head.now.start) c.in_ok-term.term (Set (record { at = c.args.head.now.variable.0 }) c.in_ok-term.term) c.in_ok-term.ensures (λ r. refl)
