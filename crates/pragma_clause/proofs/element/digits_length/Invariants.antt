use Rattle.std.proofs.Common.{◌≡◌, ◌+◌, drop}
use Rattle.pragma_clause.specs.DirectiveReader.{digits_length}
use Rattle.pragma_clause.proofs.element.digits_length.Given as goal

abbrev pub invariant-loop-i : goal.invariant-loop-i
invariant-loop-i l = digits_length l.bytes ≡ l.i + digits_length (drop l.i l.bytes)
