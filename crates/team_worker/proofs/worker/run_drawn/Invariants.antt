use Rattle.std.proofs.Common.{◌≡◌, ◌-◌}
use Rattle.draw.proofs.Rising.{above}
use Rattle.team_worker.specs.Ends.{IsAccountOf}
use Rattle.team_worker.proofs.worker.run_drawn.Given as goal

abbrev pub invariant-loop-ticket : goal.invariant-loop-ticket
invariant-loop-ticket g l =
    record {
      runner : l.runner ≡ l.job.store.now;
      seat : l.seat.of ≡ l.drawing;
      account : IsAccountOf l.job l.seat.tickets l.log;
    }

abbrev pub decreases-loop-ticket : goal.decreases-loop-ticket
decreases-loop-ticket g l = l.drawing.count - above l.seat.tickets
