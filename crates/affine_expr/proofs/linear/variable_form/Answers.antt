use Rattle.std.proofs.Common.{◌∙◌, sym, ap, Some, inr}
use Rattle.affine_expr.proofs.Shaping.{shape_missing, shape_subscripted, form_there, form_missing, form_subscripted}
use Rattle.affine_expr.proofs.linear.variable_form.Goals as goal

pub returns-then-has-clause-ok : goal.returns-then-has-clause-ok
returns-then-has-clause-ok c = form_there c.args.bounds.now c.args.variable.0 c.args.subscripts.now c.in-empty.len_below (sym c.has.ensures ∙ c.if-has.true) ∙ ap Some (sym c.variable.ensures)

pub returns-else-has-clause-err : goal.returns-else-has-clause-err
returns-else-has-clause-err c =
    let missing = sym c.has.ensures ∙ c.if-has.false in
    inr (
      form_missing c.args.bounds.now c.args.variable.0 c.args.subscripts.now c.in-empty.len_below missing,
      inr (shape_missing c.args.bounds.now c.args.variable.0 c.args.subscripts.now c.in-empty.len_below missing),
    )

pub returns-in-len1-up-clause-err : goal.returns-in-len1-up-clause-err
returns-in-len1-up-clause-err c =
    inr (
      form_subscripted c.args.bounds.now c.args.variable.0 c.args.subscripts.now c.in-len1-up.len_at_least,
      inr (shape_subscripted c.args.bounds.now c.args.variable.0 c.args.subscripts.now c.in-len1-up.len_at_least),
    )
