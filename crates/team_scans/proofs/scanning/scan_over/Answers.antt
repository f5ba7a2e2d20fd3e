-- One turn after another they do what is said, where lanes left registers and cells.
use Rattle.std.proofs.Common.{◌≡◌, ◌∙◌, true, ap, rules}
use Rattle.lane_rows.specs.Lanes.{stepped}
use Rattle.law_lanes.specs.Lanes.{turns}
use Rattle.lower_machine.specs.Machine.{machine}
use Rattle.lower_runner.proofs.Again.{same_turns}
use Rattle.lower_runner.specs.Turning.{ConstantsStand}
use Rattle.team_scans.proofs.scanning.scan_over.Goals as goal

pub returns-clause-does : goal.returns-clause-does
returns-clause-does g c =
    let p = c.args.prefixes in
    let v = p.scanned.laned.variable.at in
    let before = machine c.scan_in_lanes.new.registers (g.M.Cells.cells c.scan_in_lanes.new.cells) in
    let stands : ConstantsStand p.compiled.now c.scan_in_lanes.new.registers = search rules in
    let is : c.run_each_turn.result ≡ true = search rules in
    let same : before ≡ machine c.args.registers.now (g.M.Cells.cells c.args.cells.now) = search rules in
    c.run_each_turn.ensures.done is
    ∙ same_turns p.compiled.now p.scanned.ops.now v p.leaves (stepped c.args.first p.by) before stands c.args.count
    ∙ ap (turns v (stepped c.args.first p.by) p.scanned.ops.now c.args.count) same
