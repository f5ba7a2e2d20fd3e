use Rattle.std.proofs.Common.{◌≡◌, take, All}
use Rattle.outline.proofs.handing.loop_at.Given as goal

abbrev pub invariant-loop-parallel : goal.invariant-loop-parallel
invariant-loop-parallel l = All (λ p. p.line.line ≡ l.line → ⊥) (take l.parallel-index l.loops)
