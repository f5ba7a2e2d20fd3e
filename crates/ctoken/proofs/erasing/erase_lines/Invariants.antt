use Rattle.std.proofs.Common.{◌≡◌, ◌++◌, length}
use Rattle.semantics.specs.Source.Text.{erase}
use Rattle.ctoken.proofs.erasing.erase_lines.Given as goal

abbrev pub invariant-loop-kept : goal.invariant-loop-kept
invariant-loop-kept l = l.kept.items ++ erase l.rest ≡ erase l.text

abbrev pub decreases-loop-kept : goal.decreases-loop-kept
decreases-loop-kept l = length l.rest
