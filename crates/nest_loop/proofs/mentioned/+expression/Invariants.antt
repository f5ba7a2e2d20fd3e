use Rattle.std.proofs.Common.{◌≡◌, drop}
use Rattle.ktree.specs.View.{exprs_of}
use Rattle.nest_loop.specs.Mentions.{mentions_among}
use Rattle.nest_loop.proofs.mentioned.+expression.Given as goal

-- the subscripts that are left decide
abbrev pub invariant-some_mentions-loop-subscript : goal.invariant-some_mentions-loop-subscript
invariant-some_mentions-loop-subscript l = mentions_among l.variable.0 (exprs_of (drop l.subscript-index l.subscripts)) ≡ mentions_among l.variable.0 (exprs_of l.subscripts)
