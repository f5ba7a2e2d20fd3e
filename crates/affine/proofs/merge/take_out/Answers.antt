use Rattle.std.proofs.Common.{◌≡◌, ◌==◌, pos, List, Some, sym, ◌∙◌, ap, to_z, of_z, rules, w64}
use Rattle.std.specs.Prelude.{position}
use Rattle.std.proofs.lemmas.Int.{ints}
use Rattle.affine.specs.declared.term.Term.{Term}
use Rattle.affine.specs.Arithmetic.{term}
use Rattle.affine.proofs.Lookups.{coefficient_at-Some, coefficient_at-None, terms_without-Some, terms_without-None}
use Rattle.affine.proofs.merge.take_out.Goals as goal

pub returns-in-Some-clause-coefficient : goal.returns-in-Some-clause-coefficient
returns-in-Some-clause-coefficient c =
    let p = λ (ts : List Term). position (λ t. t.variable.0 == c.args.variable.0) ts in
    let at : p c.args.terms.now.items ≡ Some c.in-Some.at = sym (c.in-Some.ensures ∙ ap p c.as_slice.ensures) in
    let is = coefficient_at-Some c.args.variable.0 c.args.terms.now.items c.in-Some.at c.remove.result at in
    let read : to_z w64 (of_z w64 c.remove.result.coefficient) ≡ c.remove.result.coefficient = search (rules, ints) in
    read ∙ ap (λ (t : Term). t.coefficient) c.remove.ensures.value ∙ sym is

pub returns-in-Some-clause-rest : goal.returns-in-Some-clause-rest
returns-in-Some-clause-rest c =
    let p = λ (ts : List Term). position (λ t. t.variable.0 == c.args.variable.0) ts in
    let at : p c.args.terms.now.items ≡ Some c.in-Some.at = sym (c.in-Some.ensures ∙ ap p c.as_slice.ensures) in
    c.remove.ensures.items ∙ sym (terms_without-Some c.args.variable.0 c.args.terms.now.items c.in-Some.at c.remove.result at)

pub returns-in-None-clause-coefficient : goal.returns-in-None-clause-coefficient
returns-in-None-clause-coefficient c =
    let p = λ (ts : List Term). position (λ t. t.variable.0 == c.args.variable.0) ts in
    sym (coefficient_at-None c.args.variable.0 c.args.terms.now.items (term 0 (pos 0)) (sym (c.in-None.ensures ∙ ap p c.as_slice.ensures)))

pub returns-in-None-clause-rest : goal.returns-in-None-clause-rest
returns-in-None-clause-rest c =
    let p = λ (ts : List Term). position (λ t. t.variable.0 == c.args.variable.0) ts in
    sym (terms_without-None c.args.variable.0 c.args.terms.now.items (term 0 (pos 0)) (sym (c.in-None.ensures ∙ ap p c.as_slice.ensures)))
