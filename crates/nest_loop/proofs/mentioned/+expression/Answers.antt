use Rattle.std.proofs.Common.{◌≡◌, ◌==◌, false, ◌∙◌, sym, ap, arith}
use Rattle.std.specs.Prelude.{◌||◌}
use Rattle.std.proofs.lemmas.Bool.Decides.{nat_tests}
use Rattle.ktree.specs.View.{exprs_of}
use Rattle.nest_loop.specs.Mentions.{mentions, mentions_among}
use Rattle.ktree.proofs.Trees.{object_is}
use Rattle.nest_loop.proofs.mentioned.+expression.Goals as goal

pub mentions-returns-else-other-variable : goal.mentions-returns-else-other-variable
mentions-returns-else-other-variable t c =
    let x = c.args.variable.0 in
    let is = object_is c.args.expr.now c.in-Object.other c.in-Object.subscripts c.in-Object.field-2 c.as_slice.result.now c.in-Object.is c.as_slice.ensures.value in
    let other : c.in-Object.other.0 == x ≡ false = grind (arith, nat_tests, c.if-other-variable.false) in
    c.some_mentions.ensures ∙ sym (ap (mentions x) is ∙ ap (λ b. b || mentions_among x (exprs_of c.as_slice.result.now)) other)
