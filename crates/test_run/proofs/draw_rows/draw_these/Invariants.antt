use Rattle.std.proofs.Common.{◌≡◌, All}
use Rattle.test_run.proofs.draw_rows.draw_these.Given as goal

abbrev pub invariant-asks : goal.invariant-asks
invariant-asks l = All (λ s. s.of ≡ l.drawing) l.seats
