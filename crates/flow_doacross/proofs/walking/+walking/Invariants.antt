use Rattle.std.proofs.Common.{◌≡◌, ◌++◌, map, drop, None}
use Rattle.std.specs.Prelude.{◌&&◌, is_none}
use Rattle.ktree.specs.View.{items_of}
use Rattle.pragma_named.specs.Known.{kept, lines_known}
use Rattle.pragma_region.specs.Listed.{line_of}
use Rattle.flow_doacross.specs.Nests.{nests_among}
use Rattle.flow_doacross.specs.Listed.{parts_among}
use Rattle.flow_doacross.specs.Views.{nest_part}
use Rattle.flow_doacross.proofs.walking.+walking.Given as goal

-- what was found so far and the items that are left decide, and what is added so far stands before what these add
abbrev pub invariant-judge_among-loop-item : goal.invariant-judge_among-loop-item
invariant-judge_among-loop-item l =
    ((is_none l.fault && nests_among l.directives (lines_known (kept l.lines)) (line_of l.before) (items_of (drop l.item-index l.items)))
    ≡ nests_among l.directives (lines_known (kept l.lines)) None (items_of l.items))
    × (map nest_part l.nests.items ++ parts_among l.directives (lines_known (kept l.lines)) (line_of l.before) (items_of (drop l.item-index l.items))
    ≡ map nest_part l.fn.nests.items ++ parts_among l.directives (lines_known (kept l.lines)) None (items_of l.items))
