use Rattle.std.proofs.Common.{◌≡◌, drop}
use Rattle.ctoken.specs.Front.{Plain, string_end}
use Rattle.ctoken.proofs.StringLaw.{mode_of, IsBehind, further}
use Rattle.ctoken.proofs.string.string_end.Given as goal

abbrev pub invariant-loop-i : goal.invariant-loop-i
invariant-loop-i l = record {
  goes_on : string_end Plain l.bytes ≡ further l.i (string_end (mode_of l.mode) (drop l.i l.bytes));
  behind : IsBehind l.mode l.i;
}
