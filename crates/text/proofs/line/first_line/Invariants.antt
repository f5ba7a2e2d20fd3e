use Rattle.std.proofs.Common.{◌≡◌, ◌++◌, take, drop}
use Rattle.semantics.specs.Source.Text.{first_line}
use Rattle.text.proofs.line.first_line.Given as goal

abbrev pub invariant-loop-i : goal.invariant-loop-i
invariant-loop-i l = first_line l.bytes ≡ take l.i l.bytes ++ first_line (drop l.i l.bytes)
