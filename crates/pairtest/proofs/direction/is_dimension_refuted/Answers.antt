use Rattle.std.proofs.Common.{◌≡◌, ◌↔◌, ◌+ℤ◌, ◌-ℤ◌, ℤ, List, true, to_z, of_z, ap, subst, ◌∙◌, rules}
use mir.Syntax.{w128}
use Rattle.std.proofs.lemmas.Int.{ints}
use Rattle.pairtest.specs.Equations.{Equation, Unknown, equation, IsRefuted}
use Rattle.pairtest.specs.DirectionVectors.{coefficient, place_of, unknowns, direction_equation}
use Rattle.pairtest.proofs.direction.is_dimension_refuted.Goals as goal

pub returns-clause-ok : goal.returns-clause-ok
returns-clause-ok c =
    let nest = c.args.nest.now in
    let s = c.args.s.now in
    let t = c.args.t.now in
    let right = (t.constant -ℤ s.constant) +ℤ coefficient t.coefficients.items (place_of nest c.args.at) in
    let read : to_z w128 (of_z w128 c.right_side.result) ≡ c.right_side.result = search (rules, ints) in
    let read_again : to_z w128 (of_z w128 c.in_ok-right.right) ≡ c.in_ok-right.right = search (rules, ints) in
    let is : to_z w128 (of_z w128 c.in_ok-right.right) ≡ right = read_again ∙ c.in_ok-right.ensures.ok.0 ∙ read ∙ c.right_side.ensures.value in
    let us : List Unknown = unknowns nest c.args.at c.args.earlier.now c.args.later.now c.deref.result.now c.deref-2.result.now in
    let whole : equation us (to_z w128 (of_z w128 c.in_ok-right.right)) ≡ direction_equation nest c.args.at c.args.earlier.now c.args.later.now s t =
    ap (λ (n : ℤ). equation us n) is
    ∙ ap (λ (es : List ℤ). equation (unknowns nest c.args.at c.args.earlier.now c.args.later.now es c.deref-2.result.now) right) c.deref.ensures.value
    ∙ ap (λ (ls : List ℤ). equation (unknowns nest c.args.at c.args.earlier.now c.args.later.now s.coefficients.items ls) right) c.deref-2.ensures.value in
    subst (λ (e : Equation). (c.refutes.result ≡ true) ↔ IsRefuted e) whole (c.refutes.ensures us c.in_ok-reach.ensures.ok)
