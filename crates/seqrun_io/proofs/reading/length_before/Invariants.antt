use Rattle.std.specs.Prelude.{◌≡◌, take, true}
use Rattle.seqrun_io.specs.Reading.{has_none}
use Rattle.seqrun_io.proofs.reading.length_before.Given as goal

abbrev pub invariant-loop-i : goal.invariant-loop-i
invariant-loop-i l = has_none l.mark (take l.i l.bytes) ≡ true
