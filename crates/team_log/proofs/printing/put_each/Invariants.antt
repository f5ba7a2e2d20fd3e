use Rattle.std.specs.Prelude.{◌≡◌, ◌++◌, take, map, flat_map, List, ℕ}
use Rattle.std.proofs.Common.{Bor}
use Rattle.team_log.proofs.printing.put_each.Given as goal

abbrev pub invariant-loop-text : goal.invariant-loop-text
invariant-loop-text g l =
    record {
      told : g.S.Sink.told l.sink ≡ g.S.Sink.told l.initial.sink ++ flat_map (λ (t : List ℕ). t) (map (λ (t : Bor (List ℕ)). t.now) (take l.text-index l.texts));
      sound : g.S.Sink.failed l.sink ≡ g.S.Sink.failed l.initial.sink;
    }
