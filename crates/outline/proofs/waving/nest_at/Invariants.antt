use Rattle.outline.proofs.Lookups.{NestIsLeft}
use Rattle.outline.proofs.waving.nest_at.Given as goal

abbrev pub invariant-loop-nest : goal.invariant-loop-nest
invariant-loop-nest l = NestIsLeft l.nests l.line l.nest-index
