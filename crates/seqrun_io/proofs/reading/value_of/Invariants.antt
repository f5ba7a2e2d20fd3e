use Rattle.std.specs.Prelude.{◌≡◌, ◌<◌, ◌^◌, drop}
use Rattle.std.specs.List.{list_all}
use Rattle.semantics.specs.Source.Cuts.{is_digit, decimal_from}
use Rattle.seqrun_io.proofs.reading.value_of.Given as goal

abbrev pub invariant-loop-byte : goal.invariant-loop-byte
invariant-loop-byte l =
    (list_all is_digit l.word ≡ list_all is_digit (drop l.byte-index l.word))
    × (decimal_from 0 l.word ≡ decimal_from l.value (drop l.byte-index l.word))
    × (l.value < 2 ^ 64)
