use Rattle.std.specs.Prelude.{◌≡◌, ◌++◌, take, map}
use Rattle.ompk_message.specs.Message.{joined, index_text}
use Rattle.ompk_message.proofs.telling.put_indexes.Given as goal

abbrev pub invariant-loop-index : goal.invariant-loop-index
invariant-loop-index g l = (g.S.Sink.told l.sink ≡ g.S.Sink.told l.initial.sink ++ joined (map index_text (take l.index-index l.indexes))) × (g.S.Sink.failed l.sink ≡ g.S.Sink.failed l.initial.sink)
