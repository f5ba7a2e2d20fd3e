use Rattle.std.proofs.Common.{◌≡◌, drop}
use Rattle.semantics.specs.Meaning.Agrees.{names_exprs}
use Rattle.ktree.specs.View.{exprs_of}
use Rattle.pragma_mention.specs.Sets.{holds}
use Rattle.pragma_mention.proofs.expressions.+expression.Given as goal

-- those that are left decide
abbrev pub invariant-exprs-loop-subscript : goal.invariant-exprs-loop-subscript
invariant-exprs-loop-subscript l =
    names_exprs (holds l.known) (exprs_of (drop l.subscript-index l.subscripts)) ≡ names_exprs (holds l.known) (exprs_of l.subscripts)
