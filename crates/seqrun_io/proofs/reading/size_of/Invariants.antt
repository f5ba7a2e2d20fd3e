use Rattle.std.specs.Prelude.{◌≡◌, ◌*◌, drop}
use Rattle.semantics.specs.Meaning.Places.{size}
use Rattle.seqrun_io.proofs.reading.size_of.Given as goal

abbrev pub invariant-loop-length : goal.invariant-loop-length
invariant-loop-length l = l.product * size (drop l.length-index l.lengths) ≡ size l.lengths
