use Rattle.std.proofs.Common.{◌≡◌, drop}
use Rattle.semantics.specs.Source.Text.{skip_blanks}
use Rattle.text.proofs.line.skip_blanks.Given as goal

abbrev pub invariant-loop-i : goal.invariant-loop-i
invariant-loop-i l = skip_blanks (drop l.i l.bytes) ≡ skip_blanks l.bytes
