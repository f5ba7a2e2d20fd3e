use Rattle.std.proofs.Common.{◌≡◌, drop, map}
use Rattle.semantics.specs.Meaning.Runs.{print_text}
use Rattle.ktree.specs.View.{part_of}
use Rattle.seqrun_value.specs.Standing.{standing}
use Rattle.seqrun.proofs.PrintLemmas.{Printing}
use Rattle.seqrun.proofs.printing.print.Given as goal

-- the parts so far, and those that are left
abbrev pub invariant-loop-part : goal.invariant-loop-part
invariant-loop-part g l =
    Printing (print_text (standing l.frame l.store) (map part_of l.parts)) (print_text (standing l.frame l.store) (map part_of (drop l.part-index l.parts))) (g.S.Sink.told l.initial.sink) (g.S.Sink.told l.sink)
    × (g.S.Sink.failed l.sink ≡ g.S.Sink.failed l.initial.sink)
