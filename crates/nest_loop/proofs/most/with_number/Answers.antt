use Rattle.std.specs.Prelude.{ℤ, ◌≡◌, ◌+ℤ◌, pos}
use Rattle.std.proofs.Common.{◌∙◌, ap, to_z, of_z, subst, rules, arith}
use mir.Syntax.{w128}
use Rattle.std.proofs.lemmas.Int.{ints}
use Rattle.affine.specs.Arithmetic.{constant_form}
use Rattle.semantics.specs.Tree.{Variable}
use Rattle.affine.specs.Affine.{value}
use Rattle.nest_loop.proofs.Turning.{constant_value}
use Rattle.nest_loop.proofs.most.with_number.Goals as goal

pub returns-in-Ok-add-clause-ok : goal.returns-in-Ok-add-clause-ok
returns-in-Ok-add-clause-ok c =
    let read : to_z w128 (of_z w128 c.args.number) ≡ c.args.number = search (rules, ints) in
    let is = subst (λ (n : ℤ). c.in-Ok.constant ≡ constant_form n) read c.in-Ok.ensures.ok.0 in
    let zero : c.args.number +ℤ pos 0 ≡ c.args.number = omega (arith, ints) in
    λ (v : Variable → ℤ).
    c.in-Ok-add.ensures.value v ∙ ap (λ (n : ℤ). value c.args.form.now v +ℤ n) (constant_value c.in-Ok.constant c.args.number v is ∙ zero)
