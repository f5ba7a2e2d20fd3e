use Rattle.std.proofs.Common.{◌≡◌, ◌==◌, ◌||◌, drop}
use Rattle.std.specs.List.{list_all}
use Rattle.semantics.specs.Source.Cuts.{is_printable}
use Rattle.ctoken.proofs.check.unfit_byte.Given as goal

abbrev pub invariant-loop-i : goal.invariant-loop-i
invariant-loop-i l = list_all (λ b. is_printable b || ((b == 9) || (b == 10))) l.text ≡ list_all (λ b. is_printable b || ((b == 9) || (b == 10))) (drop l.i l.text)
