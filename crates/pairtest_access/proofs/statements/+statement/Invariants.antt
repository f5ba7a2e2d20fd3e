use Rattle.std.specs.Prelude.{◌≡◌}
use Rattle.nest_loop.proofs.Standing.{AreLeft}
use Rattle.pairtest_access.proofs.Walks.{Before}
use Rattle.pairtest_access.proofs.statements.+statement.Given as goal

-- the loops are as they were, the items so far are walked, and the facts of the others are left
abbrev pub invariant-block-loop-item : goal.invariant-block-loop-item
invariant-block-loop-item l = (l.chain ≡ l.initial.chain) × Before l.initial.chain l.initial.finder l.items l.item-index l.finder × AreLeft l.initial.chain.box l.items l.item-index l.loops l.left
