use Rattle.std.proofs.Common.{◌≡◌, ◌+◌, drop}
use Rattle.ctoken.specs.Front.{run}
use Rattle.ctoken.specs.Classes.{class_test}
use Rattle.ctoken.proofs.bytes.Class.run.Given as goal

abbrev pub invariant-loop-i : goal.invariant-loop-i
invariant-loop-i l = run (class_test l.self) l.bytes ≡ l.i + run (class_test l.self) (drop l.i l.bytes)
