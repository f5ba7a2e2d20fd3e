use Rattle.std.proofs.Common.{◌≡◌, ℤ, ◌+ℤ◌, IfOk, ap, ◌∙◌, rules}
use Rattle.std.proofs.lemmas.Int.{ints}
use Rattle.std.proofs.lemmas.Result.{IfOk-weaker}
use Rattle.semantics.specs.Tree.{Variable}
use Rattle.affine.specs.Affine.{Affine, value}
use Rattle.affine.specs.Arithmetic.{sum_form}
use Rattle.affine.proofs.Values.{value-sum_form}
use Rattle.affine.proofs.form.Form.add.Goals as goal

pub returns-clause-value : goal.returns-clause-value
returns-clause-value c =
    let a = c.args.self.now in
    let b = c.args.other.now in
    let sum : IfOk c.plus_multiple.result (λ form. form ≡ sum_form a b) = search (rules, ints) in
    IfOk-weaker c.plus_multiple.result (λ form. form ≡ sum_form a b)
    (λ form. (values : Variable → ℤ) → value form values ≡ value a values +ℤ value b values)
    (λ form is values. ap (λ (f : Affine). value f values) is ∙ value-sum_form a b values) sum
