use Rattle.std.proofs.Common.{◌≡◌}
use Rattle.test_run.proofs.draw_rows.draw_all.Given as goal

abbrev pub invariant-draws : goal.invariant-draws
invariant-draws l = l.seat.of ≡ l.drawing
