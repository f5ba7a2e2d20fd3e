use Rattle.std.proofs.Common.{◌≡◌, false, drop}
use Rattle.ctoken.specs.Checks.{places_from}
use Rattle.ctoken.proofs.check.missing_place.Given as goal

abbrev pub invariant-loop-token : goal.invariant-loop-token
invariant-loop-token l = places_from false l.text l.tokens ≡ places_from l.is_due l.text (drop l.token-index l.tokens)
