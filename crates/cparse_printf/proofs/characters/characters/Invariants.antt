use Rattle.std.proofs.Common.{◌≡◌, ◌++◌, drop}
use Rattle.ctoken.specs.Front.{spelled}
use Rattle.cparse_printf.proofs.characters.characters.Given as goal

-- what was spelled, and what the rest spells
abbrev pub invariant-loop-byte : goal.invariant-loop-byte
invariant-loop-byte l = l.characters.items ++ spelled l.escaped (drop l.byte-index l.bytes) ≡ spelled l.initial.escaped l.bytes
