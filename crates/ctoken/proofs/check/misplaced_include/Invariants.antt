use Rattle.std.proofs.Common.{ℕ, ◌≡◌, List, [], Option, Some, drop}
use Rattle.ctoken.specs.Checks.{IsLeading, headers_from}
use Rattle.ctoken.proofs.check.misplaced_include.Given as goal

abbrev pub invariant-loop-token : goal.invariant-loop-token
invariant-loop-token l = (seen : Option (List ℕ)) × IsLeading l.leading seen × (headers_from (Some []) l.tokens ≡ headers_from seen (drop l.token-index l.tokens))
