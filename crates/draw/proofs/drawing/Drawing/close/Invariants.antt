use Rattle.std.proofs.Common.{◌≡◌, ◌++◌}
use Rattle.draw.proofs.Seats.{Gathered}
use Rattle.draw.proofs.drawing.Drawing.close.Given as goal

abbrev pub invariant-loop-back : goal.invariant-loop-back
invariant-loop-back l =
    (l.yielded ++ l.back-iterator.rest.items ≡ l.fn.seats.items)
    × Gathered l.initial.joined.table_id l.joined.table_id l.joined.me l.met_end l.yielded
