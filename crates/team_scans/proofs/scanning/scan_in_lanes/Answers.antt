-- Turns of the body with its constants are turns of its instructions.
use Rattle.std.proofs.Common.{◌∙◌}
use Rattle.lane_rows.specs.Lanes.{stepped}
use Rattle.lower_machine.specs.Machine.{machine}
use Rattle.lower_runner.proofs.Again.{same_turns}
use Rattle.team_scans.proofs.scanning.scan_in_lanes.Goals as goal

pub returns-clause-does : goal.returns-clause-does
returns-clause-does g c is =
    let p = c.args.prefixes in
    c.run_turns.ensures.done is
    ∙ same_turns p.compiled.now p.scanned.ops.now p.scanned.laned.variable.at p.leaves (stepped c.args.first p.by) (machine c.args.registers.now (g.M.Cells.cells c.args.cells.now)) (c.run_turns.ensures.stand is) c.args.count
