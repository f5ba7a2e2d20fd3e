-- What is left to show of the window.
use Rattle.std.proofs.Common.{subst}
use Rattle.std.specs.Prelude.{Contains}
use Rattle.lower_op.specs.declared.op.Op.{Op}
use Rattle.team_parts.specs.Window.{FitsWindow}
use Rattle.team_parts.proofs.Windows.{kept_apart, variable_there}
use Rattle.team_parts.proofs.window.window_of.Goals as goal

-- src/window.rt
pub returns-clause-apart : goal.returns-clause-apart
returns-clause-apart c cells =
    let w = c.in_ok-window.window in
    let laned = c.args.laned in
    let turns = c.args.turns in
    let registers = turns.registers.now in
    let below = c.is_below.ensures c.if-not-is_below.false in
    let fits : (op : Op) → Contains laned.ops.now op → FitsWindow w laned.variable.at turns.first turns.by turns.count registers op
    = subst (λ v. (op : Op) → Contains laned.ops.now op → FitsWindow w v turns.first turns.by turns.count registers op) c.requires.along (c.all_fit.ensures c.if-not-all_fit.false) in
    kept_apart w turns.count below.few below.room laned.variable.at turns.first turns.by registers (variable_there laned.limit laned.variable.at laned.ops.now registers laned.laned c.requires.inside) c.hold_numbers.ensures cells laned.ops.now fits laned.limit laned.laned
