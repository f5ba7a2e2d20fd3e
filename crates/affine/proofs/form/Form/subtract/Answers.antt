use Rattle.std.proofs.Common.{◌≡◌, ℤ, negsuc, ◌-ℤ◌, IfOk, ap, ◌∙◌, rules}
use Rattle.std.proofs.lemmas.Int.{ints}
use Rattle.std.proofs.lemmas.Result.{IfOk-weaker}
use Rattle.semantics.specs.Tree.{Variable}
use Rattle.affine.specs.Affine.{Affine, value}
use Rattle.affine.specs.Arithmetic.{plus_multiple}
use Rattle.affine.proofs.Values.{value-difference}
use Rattle.affine.proofs.form.Form.subtract.Goals as goal

pub returns-clause-value : goal.returns-clause-value
returns-clause-value c =
    let a = c.args.self.now in
    let b = c.args.other.now in
    let difference : IfOk c.plus_multiple.result (λ form. form ≡ plus_multiple a (negsuc 0) b) = search (rules, ints) in
    IfOk-weaker c.plus_multiple.result (λ form. form ≡ plus_multiple a (negsuc 0) b)
    (λ form. (values : Variable → ℤ) → value form values ≡ value a values -ℤ value b values)
    (λ form is values. ap (λ (f : Affine). value f values) is ∙ value-difference a b values) difference
