use Rattle.std.proofs.Common.{refl}
use Rattle.std.specs.Prelude.{map}
use Rattle.ktree.specs.View.{part_of}
use Rattle.lower_machine.specs.declared.term.Code.{Print}
use Rattle.lower_code.proofs.Doing.{print_does}
use Rattle.lower_code.proofs.statements.print.Goals as goal

pub returns : goal.returns
returns c mark all =
    print_does c.args.layout.now mark (map part_of c.args.parts.now) c.in_ok-pieces.pieces (Print c.in_ok-pieces.pieces) c.in_ok-pieces.ensures (λ r. refl)
