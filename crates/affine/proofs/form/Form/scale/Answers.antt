use Rattle.std.proofs.Common.{◌≡◌, ℤ, ◌*ℤ◌, IfOk, ap, ◌∙◌, rules}
use Rattle.std.proofs.lemmas.Int.{ints}
use Rattle.std.proofs.lemmas.Result.{IfOk-weaker}
use Rattle.semantics.specs.Tree.{Variable}
use Rattle.affine.specs.Affine.{Affine, value}
use Rattle.affine.specs.Arithmetic.{multiple_form}
use Rattle.affine.proofs.Values.{value-multiple_form}
use Rattle.affine.proofs.form.Form.scale.Goals as goal

pub returns-clause-value : goal.returns-clause-value
returns-clause-value c =
    let a = c.args.self.now in
    let multiple : IfOk c.plus_multiple.result (λ form. form ≡ multiple_form a c.args.factor) = search (rules, ints) in
    IfOk-weaker c.plus_multiple.result (λ form. form ≡ multiple_form a c.args.factor)
    (λ form. (values : Variable → ℤ) → value form values ≡ value a values *ℤ c.args.factor)
    (λ form is values. ap (λ (f : Affine). value f values) is ∙ value-multiple_form a c.args.factor values) multiple
