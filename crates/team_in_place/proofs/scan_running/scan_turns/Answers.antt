-- The part that is all of the turns.
use Rattle.std.proofs.Common.{◌≡◌, ◌<◌, ◌++◌, arith, rules}
use Rattle.std.specs.Prelude.{slice_index}
use Rattle.team_in_place.proofs.ScanWhole.{all_scanned}
use Rattle.team_in_place.proofs.scan_running.scan_turns.Goals as goal

pub returns-clause-does : goal.returns-clause-does
returns-clause-does g c =
    let mine = c.args.own.now in
    let all = c.args.before.now ++ (mine ++ c.args.behind.now) in
    let apart = c.requires.apart in
    let first = c.register_value-first.result in
    let some : 0 < c.args.plan.rise.count = omega (arith, apart.many) in
    let is : first ≡ slice_index c.args.registers.now c.args.plan.scanned.target.at = search rules in
    all_scanned _ mine c.requires.before c.requires.own (apart.apart all) first is c.scan_all.new.own c.in_ok-registers.registers.items some c.in_ok-registers.ensures
