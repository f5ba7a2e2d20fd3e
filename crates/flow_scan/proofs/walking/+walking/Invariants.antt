use Rattle.std.proofs.Common.{◌≡◌, ◌++◌, map, drop, None}
use Rattle.std.specs.Prelude.{◌&&◌, is_none}
use Rattle.ktree.specs.View.{items_of, kernel_of}
use Rattle.pragma_named.specs.Known.{kept, lines_known}
use Rattle.pragma_region.specs.Listed.{line_of}
use Rattle.flow_scan.specs.Scans.{scans_among, parts_among}
use Rattle.flow_scan.specs.Views.{scan_part}
use Rattle.flow_scan.proofs.walking.+walking.Given as goal

-- what was found so far and the items that are left decide, and what is added so far stands before what these add
abbrev pub invariant-judge_among-loop-item : goal.invariant-judge_among-loop-item
invariant-judge_among-loop-item l =
    ((is_none l.fault && scans_among l.directives (kernel_of l.kernel) (lines_known (kept l.lines)) (line_of l.before) (items_of (drop l.item-index l.items)))
    ≡ scans_among l.directives (kernel_of l.kernel) (lines_known (kept l.lines)) None (items_of l.items))
    × (map scan_part l.loops.items ++ parts_among l.directives (lines_known (kept l.lines)) (line_of l.before) (items_of (drop l.item-index l.items))
    ≡ map scan_part l.fn.loops.items ++ parts_among l.directives (lines_known (kept l.lines)) None (items_of l.items))
