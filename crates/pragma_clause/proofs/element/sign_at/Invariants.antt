use Rattle.std.proofs.Common.{◌≡◌, ◌+◌, drop}
use Rattle.pragma_clause.specs.DirectiveReader.{sign_at}
use Rattle.pragma_clause.proofs.element.sign_at.Given as goal

abbrev pub invariant-loop-i : goal.invariant-loop-i
invariant-loop-i l = sign_at l.bytes ≡ l.i + sign_at (drop l.i l.bytes)
