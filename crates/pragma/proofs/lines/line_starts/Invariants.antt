use Rattle.std.proofs.Common.{◌≡◌, ◌++◌, drop}
use Rattle.pragma.specs.Lines.{line_starts, starts_from}
use Rattle.pragma.proofs.lines.line_starts.Given as goal

abbrev pub invariant-loop-i : goal.invariant-loop-i
invariant-loop-i l = l.starts.items ++ starts_from l.i (drop l.i l.text) ≡ line_starts l.text
