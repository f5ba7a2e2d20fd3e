use Rattle.std.proofs.Common.{◌≡◌, length, map}
use Rattle.reduce.specs.Partial.{partial_of}
use Rattle.team_log.specs.Logged.{partials_in}
use Rattle.team_log.specs.Scanned.{partials_from}
use Rattle.team_log.proofs.log.enter_each_partial.Given as goal

-- whatever is left to enter leads to the same
abbrev pub invariant-chunks : goal.invariant-chunks
invariant-chunks l =
    record {
      count : partials_in l.chunks ≡ length l.left;
      same : partials_from l.chunks l.left (map partial_of l.table) ≡ partials_from l.fn.ended l.fn.partials (map partial_of l.initial.table);
    }

abbrev pub decreases-chunks : goal.decreases-chunks
decreases-chunks l = length l.chunks
