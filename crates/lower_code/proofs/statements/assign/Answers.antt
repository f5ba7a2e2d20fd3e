use Rattle.std.proofs.Common.{refl}
use Rattle.ktree.specs.View.{exprs_of}
use Rattle.lower_machine.specs.declared.term.Code.{Save, Set}
use Rattle.lower_code.proofs.Doing.{save_assigns, set_assigns}
use Rattle.lower_code.proofs.statements.assign.Goals as goal

pub returns-in_ok-at : goal.returns-in_ok-at
returns-in_ok-at c mark = save_assigns c.args.layout.now mark c.args.variable.0 (exprs_of c.args.subscripts.now) c.in_ok-at.at c.args.term (Save c.in_ok-at.at c.args.term) c.if-variable-layout.true c.in_ok-at.ensures (λ r. refl)

pub returns-else-variable-layout : goal.returns-else-variable-layout
returns-else-variable-layout c mark = set_assigns c.args.layout.now mark c.args.variable.0 (exprs_of c.args.subscripts.now) c.args.term (Set (record { at = c.args.variable.0 }) c.args.term) c.if-variable-layout.false (λ r. refl)
