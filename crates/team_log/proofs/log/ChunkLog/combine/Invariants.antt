use Rattle.std.proofs.Common.{◌≡◌, length}
use Rattle.ktree.specs.DirectiveView.{operator_of}
use Rattle.semantics.specs.Loops.Operator.{combined_all}
use Rattle.team_log.specs.Logged.{partials_in}
use Rattle.team_log.specs.Spots.{told_of}
use Rattle.team_log.proofs.Combining.{left_of}
use Rattle.team_log.proofs.log.ChunkLog.combine.Given as goal

abbrev pub invariant-chunks : goal.invariant-chunks
invariant-chunks l =
    record {
      count : partials_in l.chunks ≡ length l.partials;
      left : combined_all (operator_of l.operator) l.value (left_of l.index l.chunks l.partials) ≡ combined_all (operator_of l.fn.operator) l.fn.value (told_of l.fn.index l.fn.self.chunks);
    }

abbrev pub decreases-chunks : goal.decreases-chunks
decreases-chunks l = length l.chunks
