use Rattle.std.proofs.Common.{◌≡◌, ◌-◌, take, length}
use Rattle.team_worker.specs.Ends.{IsAccountOf}
use Rattle.team_worker.specs.Dealt.{own_numbers}
use Rattle.team_worker.proofs.dealt.run_dealt.Given as goal

-- the own chunks so far
abbrev pub invariant-loop-number : goal.invariant-loop-number
invariant-loop-number g l =
    record {
      runner : l.runner ≡ l.job.store.now;
      account : IsAccountOf l.job (take l.turn (own_numbers l.fn.size (length l.job.chunks.now) l.workers l.worker)) l.log;
    }

abbrev pub decreases-loop-number : goal.decreases-loop-number
decreases-loop-number g l = length (own_numbers l.fn.size (length l.job.chunks.now) l.workers l.worker) - l.turn
