use Rattle.std.proofs.Common.{sym}
use Rattle.ktree.specs.View.{stmt_of}
use Rattle.pragma.specs.Parallel.{associated}
use Rattle.pragma.specs.Views.{scheduled}
use Rattle.pragma.specs.Plain.{has_line}
use Rattle.pragma.proofs.PlainLaw.{clash}
use Rattle.pragma.proofs.placed.directive_fault.Goals as goal

pub returns-in_default : goal.returns-in_default
returns-in_default c = λ h. c.in_default.ensures (associated h.1) h.3

pub returns-in-Err : goal.returns-in-Err
returns-in-Err c = λ h. c.in-Err.ensures.err.1 h.0 h.1 h.2

pub returns-in-None : goal.returns-in-None
returns-in-None c =
    let line = c.in_default-at.field-0 in
    (scheduled line, line.collapse, c.in_default-at.ensures.ok, (c.in-Some.ensures (associated line.collapse)).1 (sym c.in-None.ensures))

pub returns-in-Some-line_in : goal.returns-in-Some-line_in
returns-in-Some-line_in c = λ h. clash (has_line (stmt_of c.in-Some.body.now)) c.in-Some-line_in.ensures ((c.in-Some.ensures (associated h.1)).0 h.3)
