use Rattle.std.proofs.Common.{rules, ◌≡◌, ℤ, ◌*ℤ◌, to_z, of_z, sym, ◌∙◌, ap, subst}
use mir.Syntax.{w64, w128}
use mir.Val.{SFits}
use Rattle.std.proofs.lemmas.Int.{to_z-of_z}
use Rattle.pairtest_cover.specs.Covered.{coefficient_at, StandsIn}
use Rattle.pairtest_cover.proofs.Sides.{bits_decide, equal_decided, never_equal, product_read}
use Rattle.pairtest_cover.proofs.distance.is_equal.Goals as goal

pub returns-in-Some : goal.returns-in-Some
returns-in-Some c =
    let k : ℤ = coefficient_at c.args.nest.now c.args.at c.args.s.now in
    let fits : SFits w64 c.coefficient_at-coefficient.result = search rules in
    let small : SFits w128 c.product.result = search rules in
    let less : SFits w128 c.difference-wanted.result = search rules in
    let stands : StandsIn c.args.nest.now c.args.at c.args.s.now = λ q. c.if-coefficient-eq0.false (ap (of_z w64) (c.coefficient_at-coefficient.ensures ∙ q)) in
    let p : ℤ = to_z w128 (of_z w128 c.product.result) in
    let is : p ≡ k *ℤ c.args.step =
    to_z-of_z w128 c.product.result small ∙ product_read k c.coefficient_at-coefficient.result c.args.step c.product.result fits c.ranges.step c.product.ensures.value c.coefficient_at-coefficient.ensures in
    let reach : c.in-Some.far ≡ p *ℤ to_z w128 (of_z w128 c.args.times) = c.in-Some.ensures.1 in
    let far : SFits w128 c.in-Some.far = subst (SFits w128) (sym reach) c.in-Some.ensures.0 in
    equal_decided k c.args.step c.args.times c.args.s.now.constant c.args.t.now.constant p c.in-Some.far c.difference-wanted.result _ is
    (reach ∙ ap (λ (z : ℤ). p *ℤ z) (to_z-of_z w128 c.args.times c.ranges.times)) c.difference-wanted.ensures.value stands (bits_decide w128 c.in-Some.far c.difference-wanted.result far less)

pub returns-in-None : goal.returns-in-None
returns-in-None c =
    let k : ℤ = coefficient_at c.args.nest.now c.args.at c.args.s.now in
    let fits : SFits w64 c.coefficient_at-coefficient.result = search rules in
    let small : SFits w128 c.product.result = search rules in
    let less : SFits w128 c.difference-wanted.result = search rules in
    let stands : StandsIn c.args.nest.now c.args.at c.args.s.now = λ q. c.if-coefficient-eq0.false (ap (of_z w64) (c.coefficient_at-coefficient.ensures ∙ q)) in
    let p : ℤ = to_z w128 (of_z w128 c.product.result) in
    let is : p ≡ k *ℤ c.args.step =
    to_z-of_z w128 c.product.result small ∙ product_read k c.coefficient_at-coefficient.result c.args.step c.product.result fits c.ranges.step c.product.ensures.value c.coefficient_at-coefficient.ensures in
    never_equal k c.args.step c.args.times c.args.s.now.constant c.args.t.now.constant p c.difference-wanted.result is c.difference-wanted.ensures.value stands less
    (λ h. c.in-None.ensures (subst (λ (z : ℤ). SFits w128 (p *ℤ z)) (sym (to_z-of_z w128 c.args.times c.ranges.times)) h))
