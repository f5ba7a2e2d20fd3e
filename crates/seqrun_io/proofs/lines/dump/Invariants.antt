use Rattle.std.specs.Prelude.{◌≡◌, take, map}
use Rattle.semantics.specs.Meaning.Output.{dump_from}
use Rattle.ktree.specs.View.{declaration_of}
use Rattle.store.specs.Kept.{state_of}
use Rattle.seqrun_io.specs.Told.{Holds}
use Rattle.seqrun_io.proofs.lines.dump.Given as goal

abbrev pub invariant-loop-variable : goal.invariant-loop-variable
invariant-loop-variable g l =
    Holds (g.S.Sink.told l.initial.sink) (g.S.Sink.told l.sink) l.held.items (dump_from (state_of l.store) 0 (map declaration_of (take l.variable l.declarations)))
    × (g.S.Sink.failed l.sink ≡ g.S.Sink.failed l.initial.sink)
