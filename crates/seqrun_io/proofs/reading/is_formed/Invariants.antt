use Rattle.std.specs.Prelude.{true, ◌≡◌, drop}
use Rattle.seqrun_io.proofs.InputWords.{formed_from}
use Rattle.seqrun_io.proofs.reading.is_formed.Given as goal

abbrev pub invariant-loop-byte : goal.invariant-loop-byte
invariant-loop-byte l = formed_from true l.line ≡ formed_from l.fresh (drop l.byte-index l.line)
