use Rattle.std.specs.Prelude.{◌≡◌}
use Rattle.nest.specs.Nests.{IsAffine}
use Rattle.nest.specs.Judged.{inside_of, out_of}
use Rattle.nest.proofs.Walks.{Left}
use Rattle.nest.proofs.Leaving.{ToldSoFar}
use Rattle.nest.proofs.FactsLaw.{PutSoFar}
use Rattle.nest.proofs.statements.+statement.Given as goal

-- the box is as it was, the items that are left decide, and what is told and put of those before them
abbrev pub invariant-block-loop-item : goal.invariant-block-loop-item
invariant-block-loop-item l =
    (l.bounds ≡ l.initial.bounds)
    × Left IsAffine l.initial.bounds l.items l.item-index
    × ToldSoFar (inside_of l.variables) (out_of l.variables) l.initial.bounds l.items l.item-index l.leaves
    × PutSoFar l.initial.bounds l.items l.item-index l.initial.loops.items l.loops.items
