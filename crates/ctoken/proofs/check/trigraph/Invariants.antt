use Rattle.std.proofs.Common.{◌≡◌, drop}
use Rattle.semantics.specs.Source.Cuts.{has_trigraph}
use Rattle.ctoken.proofs.check.trigraph.Given as goal

abbrev pub invariant-loop-i : goal.invariant-loop-i
invariant-loop-i l = has_trigraph l.text ≡ has_trigraph (drop l.i l.text)
