use Rattle.std.specs.Prelude.{◌≡◌, ◌&&◌, is_none}
use Rattle.std.proofs.Common.{rules, sym, ap, ◌∙◌}
use Rattle.semantics.specs.Meaning.Agrees.{names_expr, names_exprs}
use Rattle.ktree.specs.View.{exprs_of}
use Rattle.ktree.proofs.Trees.{object_is}
use Rattle.pragma_mention.specs.Sets.{holds}
use Rattle.pragma_mention.proofs.expressions.+expression.Goals as goal

pub expr-returns-in-Object : goal.expr-returns-in-Object
expr-returns-in-Object t c =
    let V = holds c.args.known.now in
    let parts : is_none c.or.result ≡ (V c.in-Object.variable.0 && names_exprs V (exprs_of c.deref.result.now)) = search rules in
    parts ∙ sym (ap (names_expr V) (object_is c.args.expression.now c.in-Object.variable c.in-Object.subscripts c.in-Object.mention c.deref.result.now c.in-Object.is c.deref.ensures.value))
