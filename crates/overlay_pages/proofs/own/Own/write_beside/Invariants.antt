use Rattle.std.proofs.Common.{◌≡◌, ◌+◌, drop}
use Rattle.overlay_pages.specs.Over.{set_beside}
use Rattle.overlay_pages.proofs.own.Own.write_beside.Given as goal

abbrev pub invariant-loop-k : goal.invariant-loop-k
invariant-loop-k l = set_beside l.self (l.first + l.k) (drop l.k l.numbers) ≡ set_beside l.initial.self l.first l.numbers
