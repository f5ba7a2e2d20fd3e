use Rattle.std.proofs.Common.{◌≡◌, ◌+◌, drop}
use Rattle.pragma_clause.specs.Words.{run_length}
use Rattle.pragma_clause.proofs.word.run_length.Given as goal

abbrev pub invariant-loop-i : goal.invariant-loop-i
invariant-loop-i l = run_length l.bytes ≡ l.i + run_length (drop l.i l.bytes)
