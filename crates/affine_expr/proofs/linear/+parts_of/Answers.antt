use Rattle.std.proofs.Common.{◌≡◌, Some, rules, IfErr}
use Rattle.ktree.specs.View.{expr_of, binary_of}
use Rattle.affine_expr.specs.Forms.{form_of, is_number, operated}
use Rattle.affine_expr.specs.Shapes.{shape_by}
use Rattle.affine_expr.specs.Faults.{Stops}
use Rattle.ktree.proofs.Trees.{object_is}
use Rattle.affine_expr.proofs.Shaping.{stops_joined}
use Rattle.affine_expr.proofs.linear.+parts_of.Goals as goal

pub returns-in-Object-clause-form : goal.returns-in-Object-clause-form
returns-in-Object-clause-form t c =
    let is = object_is c.args.expr.now c.in-Object.variable c.in-Object.subscripts c.in-Object.field-2 c.as_slice.result.now c.in-Object.is c.as_slice.ensures.value in
    rw is c.object.ensures.form

pub returns-in-Object-clause-err : goal.returns-in-Object-clause-err
returns-in-Object-clause-err t c =
    let is = object_is c.args.expr.now c.in-Object.variable c.in-Object.subscripts c.in-Object.field-2 c.as_slice.result.now c.in-Object.is c.as_slice.ensures.value in
    rw is c.object.ensures.err

pub returns-in_ok-right-in-Binary-clause-err : goal.returns-in_ok-right-in-Binary-clause-err
returns-in_ok-right-in-Binary-clause-err t c =
    let box = c.args.bounds.now in
    let op = binary_of c.in-Binary.operator in
    let a = expr_of c.in-Binary.left.value in
    let b = expr_of c.in-Binary.right.value in
    let left = c.in_ok-left-in-Binary.left.value in
    let right = c.in_ok-right-in-Binary.right.value in
    let first : form_of box a ≡ Some left.form = search rules in
    let second : form_of box b ≡ Some right.form = search rules in
    let one : left.number ≡ is_number a = search rules in
    let other : right.number ≡ is_number b = search rules in
    let stops : IfErr c.join.result (Stops c.args.place (shape_by op left.number right.number) (operated op left.number right.number left.form right.form)) = search rules in
    rw c.in-Binary.is (stops_joined c.args.place box op a b left.form right.form left.number right.number c.join.result first one second other stops)
