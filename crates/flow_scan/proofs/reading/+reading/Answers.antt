use Rattle.std.specs.Prelude.{◌≡◌, ◌&&◌, is_none}
use Rattle.std.proofs.Common.{rules, sym, ap, ◌∙◌}
use Rattle.semantics.specs.Meaning.Agrees.{names_expr, names_exprs}
use Rattle.ktree.specs.View.{exprs_of}
use Rattle.ktree.proofs.Trees.{object_is}
use Rattle.flow_scan.specs.Views.{is_spared}
use Rattle.flow_scan.proofs.reading.+reading.Goals as goal

pub in_expression-returns-in-Object : goal.in_expression-returns-in-Object
in_expression-returns-in-Object t c =
    let V = is_spared c.args.set.now c.args.but.0 in
    let parts : is_none c.or.result ≡ (V c.in-Object.variable.0 && names_exprs V (exprs_of c.deref.result.now)) = search rules in
    parts ∙ sym (ap (names_expr V) (object_is c.args.expression.now c.in-Object.variable c.in-Object.subscripts c.in-Object.mention c.deref.result.now c.in-Object.is c.deref.ensures.value))
