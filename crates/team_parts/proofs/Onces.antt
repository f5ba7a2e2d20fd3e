-- The instructions of a turn with a loop in it, each once.
use Rattle.std.proofs.Common.{◌≡◌, ℕ, true, List, [], ap, sym, ◌∙◌}
use Rattle.std.specs.Prelude.{◌&&◌}
use Rattle.std.specs.List.{list_all}
use Rattle.lower_op.specs.declared.op.Op.{Op}
use Rattle.law_lanes.specs.Lanes.{are_own, is_steady}
use Rattle.lane_part.specs.Parts.{are_laned, has_room, is_room}
use Rattle.lane_part.proofs.Marking.{first_of, second_of}
use Rattle.law_unrolled.specs.Unrolled.{Nested, once_at_zero, ReadsItsOwn}
use Rattle.law_unrolled.proofs.Seen.{seen_law}

-- a turn reads its own where its instructions may be run in lanes, with 0 in the place of the inner variable
pub own_seen : (limit variable : ℕ) (s : Nested) (ops : List Op) → ops ≡ once_at_zero s → are_laned limit variable ops ≡ true → ReadsItsOwn variable s
own_seen limit variable s ops is laned =
    let z : List Op = once_at_zero s in
    let laned_once : are_laned limit variable z ≡ true = sym (ap (are_laned limit variable) is) ∙ laned in
    let parts = second_of (is_room limit variable && list_all (has_room limit) z) (are_own variable z [] z && list_all (is_steady z) z) laned_once in
    seen_law variable s
    (first_of (are_own variable z [] z) (list_all (is_steady z) z) parts)
    (second_of (are_own variable z [] z) (list_all (is_steady z) z) parts)
