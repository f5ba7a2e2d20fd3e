use Rattle.std.specs.Prelude.{◌≡◌, ◌++◌, take, flat_map}
use Rattle.seqrun_io.specs.Told.{Holds}
use Rattle.seqrun_io.specs.Lines.{value_text}
use Rattle.seqrun_io.proofs.lines.add_values.Given as goal

abbrev pub invariant-loop-value : goal.invariant-loop-value
invariant-loop-value g l =
    Holds (g.S.Sink.told l.initial.sink) (g.S.Sink.told l.sink) l.held.items (l.initial.held.items ++ flat_map value_text (take l.value-index l.values))
    × (g.S.Sink.failed l.sink ≡ g.S.Sink.failed l.initial.sink)
