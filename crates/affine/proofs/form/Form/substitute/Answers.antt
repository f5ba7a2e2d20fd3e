use Rattle.std.proofs.Common.{◌≡◌, ℤ, IfOk, ap, sym, ◌∙◌, subst, rules}
use Rattle.std.proofs.lemmas.Int.{ints}
use Rattle.std.proofs.lemmas.Result.{IfOk-weaker}
use Rattle.semantics.specs.Tree.{Variable}
use Rattle.affine.specs.Affine.{Affine, IsCanonical, value, with_value}
use Rattle.affine.specs.Arithmetic.{substituted, terms_without}
use Rattle.affine.proofs.Values.{value-substituted, IsCanonical-terms_without}
use Rattle.affine.proofs.form.Form.substitute.Goals as goal

pub plus_multiple-requires : goal.plus_multiple-requires
plus_multiple-requires c =
    let copied : c.in_ok-rest.rest.items ≡ c.self.inside.terms.items = c.in_ok-rest.ensures.ok ∙ c.as_slice.ensures in
    let left = c.as_slice-2.ensures ∙ c.take_out-coefficient.ensures.rest ∙ ap (terms_without c.args.variable.0) copied in
    subst IsCanonical (sym left) (IsCanonical-terms_without c.args.variable.0 c.self.inside.terms.items c.self.invariant.canonical)

pub returns-clause-value : goal.returns-clause-value
returns-clause-value c =
    let a = c.args.self.now in
    let b = c.args.by.now in
    let x = c.args.variable.0 in
    let canonical : IsCanonical a.terms = subst (λ (f : Affine). IsCanonical f.terms) c.self.view_is c.self.invariant.canonical in
    let made : IfOk c.plus_multiple.result (λ form. form ≡ substituted a x b) = search (rules, ints) in
    IfOk-weaker c.plus_multiple.result (λ form. form ≡ substituted a x b)
    (λ form. (values : Variable → ℤ) → value form values ≡ value a (with_value values x (value b values)))
    (λ form is values. ap (λ (f : Affine). value f values) is ∙ value-substituted a x b values canonical) made
