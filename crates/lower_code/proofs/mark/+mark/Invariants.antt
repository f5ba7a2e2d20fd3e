use Rattle.std.specs.Prelude.{◌≤◌, ◌^◌}
use Rattle.lower_code.proofs.Marks.{Marked}
use Rattle.lower_code.proofs.mark.+mark.Given as goal

-- what is below for the items that are left is so for all, and 32 bits number what is below
abbrev pub invariant-mark_among-loop-item : goal.invariant-mark_among-loop-item
invariant-mark_among-loop-item l = Marked l.items l.item-index l.mark × (l.mark ≤ 2 ^ 32)
