use Rattle.std.specs.Prelude.{length}
use Rattle.seqrun_io.proofs.Places.{Placing}
use Rattle.seqrun_io.proofs.reading.places_of.Given as goal

abbrev pub invariant-loop-declaration : goal.invariant-loop-declaration
invariant-loop-declaration l = Placing l.declarations l.rest l.places

abbrev pub decreases-loop-declaration : goal.decreases-loop-declaration
decreases-loop-declaration l = length l.rest
