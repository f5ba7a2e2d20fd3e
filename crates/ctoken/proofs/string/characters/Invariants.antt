use Rattle.std.proofs.Common.{◌≡◌, ◌++◌, drop}
use Rattle.ctoken.specs.Front.{spelled}
use Rattle.ctoken.proofs.string.characters.Given as goal

abbrev pub invariant-loop-byte : goal.invariant-loop-byte
invariant-loop-byte l = l.characters.items ++ spelled l.escaped (drop l.byte-index l.byte-items) ≡ spelled l.initial.escaped l.byte-items
