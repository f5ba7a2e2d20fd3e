use Rattle.std.proofs.Common.{◌≡◌, ◌==◌, pos, List, Some, sym, ◌∙◌, ap, get_or, to_z, of_z, rules, w64}
use Rattle.std.specs.Prelude.{position}
use Rattle.std.proofs.lemmas.Int.{ints}
use Rattle.affine.specs.declared.term.Term.{Term}
use Rattle.affine.specs.Affine.{Affine}
use Rattle.affine.specs.Arithmetic.{term}
use Rattle.affine.proofs.Lookups.{coefficient_at-Some, coefficient_at-None}
use Rattle.affine.proofs.form.Form.coefficient.Goals as goal

pub returns-in-Some : goal.returns-in-Some
returns-in-Some c =
    let p = λ (ts : List Term). position (λ t. t.variable.0 == c.args.variable.0) ts in
    let d = term 0 (pos 0) in
    let view = ap (λ (a : Affine). a.terms) c.self.view_is in
    let at : p c.args.self.now.terms ≡ Some c.in-Some.at = sym (c.in-Some.ensures ∙ ap p (c.as_slice.ensures ∙ view)) in
    let found = (get_or c.deref.result.now c.in-Some.at d).coefficient in
    let read : to_z w64 (of_z w64 found) ≡ found = search (rules, ints) in
    read ∙ ap (λ (ts : List Term). (get_or ts c.in-Some.at d).coefficient) (c.deref.ensures ∙ view)
    ∙ sym (coefficient_at-Some c.args.variable.0 c.args.self.now.terms c.in-Some.at d at)

pub returns-in-None : goal.returns-in-None
returns-in-None c =
    let p = λ (ts : List Term). position (λ t. t.variable.0 == c.args.variable.0) ts in
    let view = ap (λ (a : Affine). a.terms) c.self.view_is in
    sym (coefficient_at-None c.args.variable.0 c.args.self.now.terms (term 0 (pos 0)) (sym (c.in-None.ensures ∙ ap p (c.as_slice.ensures ∙ view))))
