use Rattle.std.proofs.Common.{◌≡◌, ◌==◌, ◌||◌, not, drop}
use Rattle.std.specs.List.{list_all}
use Rattle.ctoken.proofs.line.stray.Given as goal

abbrev pub invariant-loop-i : goal.invariant-loop-i
invariant-loop-i l = list_all (λ b. not ((b == 35) || (b == 92))) l.rest ≡ list_all (λ b. not ((b == 35) || (b == 92))) (drop l.i l.rest)
