use Rattle.std.specs.Prelude.{◌≡◌, ◌&&◌, is_none}
use Rattle.std.proofs.Common.{rules, sym, ap, ◌∙◌}
use Rattle.semantics.specs.Meaning.Agrees.{names_expr, names_exprs}
use Rattle.law_roles.specs.Updates.{is_plain}
use Rattle.ktree.specs.View.{exprs_of}
use Rattle.ktree.proofs.Trees.{object_is}
use Rattle.flow_reduction.specs.Reduced.{reduced}
use Rattle.flow_reduction.proofs.naming.+naming.Goals as goal

pub named_in_expression-returns-in-Object : goal.named_in_expression-returns-in-Object
named_in_expression-returns-in-Object t c =
    let V = is_plain (reduced c.args.reductions.now) in
    let parts : is_none c.or.result ≡ (V c.in-Object.variable.0 && names_exprs V (exprs_of c.deref.result.now)) = search rules in
    parts ∙ sym (ap (names_expr V) (object_is c.args.expression.now c.in-Object.variable c.in-Object.subscripts c.in-Object.mention c.deref.result.now c.in-Object.is c.deref.ensures.value))
