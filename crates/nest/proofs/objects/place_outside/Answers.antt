use Rattle.ktree.specs.View.{expr_of}
use Rattle.affine_expr.specs.Forms.{form_of}
use Rattle.nest.proofs.Stays.{decided, refused}
use Rattle.nest.proofs.objects.place_outside.Goals as goal

pub returns-then-are_indexes-clause-leaves : goal.returns-then-are_indexes-clause-leaves
returns-then-are_indexes-clause-leaves c =
    decided c.args.bounds.now c.args.length (form_of c.args.bounds.now (expr_of c.args.subscript.now)) c.in_ok-form.form c.range.result c.are_indexes.result
    c.in_ok-form.ensures.ok c.range.ensures.empty c.range.ensures.exact c.are_indexes.ensures c.if-are_indexes.true

pub returns-clause-leaves : goal.returns-clause-leaves
returns-clause-leaves c =
    refused c.args.bounds.now c.args.length (form_of c.args.bounds.now (expr_of c.args.subscript.now)) c.in_ok-form.form c.range.result c.are_indexes.result
    c.in_ok-form.ensures.ok c.range.ensures.exact c.are_indexes.ensures c.if-are_indexes.false
