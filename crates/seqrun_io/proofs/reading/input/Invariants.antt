use Rattle.std.specs.Prelude.{length, map}
use Rattle.ktree.specs.View.{declaration_of}
use Rattle.seqrun_io.proofs.InputRun.{Running}
use Rattle.seqrun_io.proofs.reading.input.Given as goal

abbrev pub invariant-loop-rest : goal.invariant-loop-rest
invariant-loop-rest l = Running (map declaration_of l.declarations) l.bytes l.store l.seen.items l.rest l.line

abbrev pub decreases-loop-rest : goal.decreases-loop-rest
decreases-loop-rest l = length l.rest
