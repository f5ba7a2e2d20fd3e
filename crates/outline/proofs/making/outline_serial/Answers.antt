use Rattle.std.proofs.Common.{sym, subst}
use Rattle.std.specs.Prelude.{None}
use Rattle.ktree.specs.View.{stmt_of}
use Rattle.outline.specs.Made.{IsMade}
use Rattle.outline.proofs.Shaped.{serial_made}
use Rattle.outline.proofs.making.outline_serial.Goals as goal

pub returns-clause-made : goal.returns-clause-made
returns-clause-made c =
    let layout = c.args.target.layout.now in
    let mark = c.args.target.registers in
    subst (IsMade layout mark c.args.loops c.args.bounds.now None (stmt_of c.args.stmt.now)) (sym c.in_ok-new.ensures.ok) (serial_made layout mark c.args.loops c.args.bounds.now c.in_ok-code.code c.args.stmt c.requires c.in_ok-code.ensures.ok)
