use Rattle.pragma.specs.Reading.{AreReadBelow}
use Rattle.pragma.proofs.lines.Directives.read.Given as goal

-- the lines before
abbrev pub invariant-loop-index : goal.invariant-loop-index
invariant-loop-index l = AreReadBelow l.text l.lines.items l.index
