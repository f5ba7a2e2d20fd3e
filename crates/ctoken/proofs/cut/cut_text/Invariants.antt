use Rattle.std.proofs.Common.{◌-◌, length}
use Rattle.ctoken.proofs.CutSteps.{Reached}
use Rattle.ctoken.proofs.cut.cut_text.Given as goal

abbrev pub invariant-loop-position : goal.invariant-loop-position
invariant-loop-position l = Reached l.text l.tokens.items l.position l.line l.line_start l.fresh

abbrev pub decreases-loop-position : goal.decreases-loop-position
decreases-loop-position l = length l.text - l.position
