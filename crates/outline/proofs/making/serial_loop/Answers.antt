use Rattle.std.proofs.Common.{sym, subst}
use Rattle.std.specs.Prelude.{None}
use Rattle.outline.specs.Made.{loop_with, IsMade}
use Rattle.outline.proofs.Shaped.{loop_made}
use Rattle.outline.proofs.making.serial_loop.Goals as goal

pub returns-clause-made : goal.returns-clause-made
returns-clause-made c loops box within a is made =
    let layout = c.args.target.layout.now in
    let mark = c.args.target.registers in
    subst (IsMade layout mark loops box None (loop_with c.args.head.now a)) (sym c.in_ok-new.ensures.ok) (loop_made layout mark loops box within c.args.head c.in_ok-lowered.lowered c.args.inner a is c.in_ok-lowered.ensures.ok made)
