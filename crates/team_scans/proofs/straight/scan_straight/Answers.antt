-- The numbers that are read are what the turns leave in their cells.
use Rattle.std.proofs.Common.{◌≡◌, List, drop, subst, rules}
use Rattle.lower_op.specs.declared.op.Op.{Op}
use Rattle.lower_lanes.specs.Saved.{SavesBy}
use Rattle.team_scans.proofs.Blocks.{back_of}
use Rattle.team_scans.proofs.Written.{straight_done}
use Rattle.team_scans.proofs.straight.scan_straight.Goals as goal

pub returns-clause-done : goal.returns-clause-done
returns-clause-done c =
    let s = c.args.prefixes in
    let saving = c.in_ok-_saving._saving in
    let saved : SavesBy (back_of s) s.scanned.target saving.by saving.save.now = subst (λ (l : List Op). SavesBy l s.scanned.target saving.by saving.save.now) c.split_at.ensures.back c.in_ok-_saving.ensures in
    let one : s.window.width ≡ 1 = search rules in
    straight_done s c.args.start c.args.from c.args.count c.args.own.now c.prefixes_by-next.new.buffer c.in_ok-row.row.now c.prefixes_by-next.result saving.by saving.save.now saved one c.requires.within c.requires.own
    (λ k lt. c.in_ok-row.ensures.row c.args.own.now k c.requires.own lt) c.prefixes_by-next.ensures.each c.prefixes_by-next.ensures.total
