use Rattle.std.specs.Prelude.{◌≡◌, map}
use Rattle.ktree.specs.View.{declaration_of}
use Rattle.nest_loop.proofs.Standing.{AreLeft}
use Rattle.deptest_verdict.specs.Sinks.{line_sinks}
use Rattle.deptest_verdict.proofs.Walks.{LeftShown}
use Rattle.deptest_verdict.proofs.Refusals.{LeftRefused}
use Rattle.deptest_verdict.proofs.kernels.+shown.Given as goal

-- the loops are as they were, the items that are left decide, and what is left of the facts are those of their loops
abbrev pub invariant-block-loop-i : goal.invariant-block-loop-i
invariant-block-loop-i l = (l.chain ≡ l.initial.chain) × LeftShown l.given.directives.now (line_sinks l.given.doacross.now) l.initial.chain l.items l.i
    × LeftRefused l.given.directives.now (line_sinks l.given.doacross.now) (map declaration_of l.given.variables.now) l.initial.chain l.items l.i
    × AreLeft l.initial.chain.box l.items l.i l.loops l.left
