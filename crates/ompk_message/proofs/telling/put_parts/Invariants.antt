use Rattle.std.specs.Prelude.{◌≡◌, ◌++◌, take, map, List, ℕ}
use Rattle.std.proofs.Common.{Bor}
use Rattle.ompk_message.specs.Message.{joined}
use Rattle.ompk_message.proofs.telling.put_parts.Given as goal

abbrev pub invariant-loop-part : goal.invariant-loop-part
invariant-loop-part g l = (g.S.Sink.told l.sink ≡ g.S.Sink.told l.initial.sink ++ joined (map (λ (part : Bor (List ℕ)). part.now) (take l.part-index l.parts))) × (g.S.Sink.failed l.sink ≡ g.S.Sink.failed l.initial.sink)
