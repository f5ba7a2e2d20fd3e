use Rattle.std.specs.Prelude.{length}
use Rattle.seqrun_io.proofs.LineSteps.{Reading}
use Rattle.seqrun_io.proofs.reading.read_values.Given as goal

abbrev pub invariant-loop-words : goal.invariant-loop-words
invariant-loop-words l = Reading l.text l.values.items l.rest

abbrev pub decreases-loop-words : goal.decreases-loop-words
decreases-loop-words l = length l.rest
