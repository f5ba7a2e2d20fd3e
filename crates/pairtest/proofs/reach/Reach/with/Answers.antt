use Rattle.std.proofs.Common.{◌≡◌, ◌≤◌, ◌^◌, ℤ, ℕ, pos, ◌+ℤ◌, unsigned_abs, to_z, of_z, subst, ap, ◌∙◌, rules, arith}
use mir.Syntax.{w128}
use Rattle.std.proofs.lemmas.Int.{ints}
use Rattle.std.specs.Int.{int_min, int_max, IsGcd, saturate_signed}
use Rattle.pairtest.specs.Equations.{unknown, last_product}
use Rattle.pairtest.proofs.Summaries.{summarizes_push}
use Rattle.pairtest.proofs.reach.Reach.with.Goals as goal

pub returns-clause-ok : goal.returns-clause-ok
returns-clause-ok c =
    let read : to_z w128 (of_z w128 c.args.coefficient) ≡ c.args.coefficient = search (rules, ints) in
    let size : c.unsigned_abs.result ≡ unsigned_abs c.args.coefficient = search (rules, ints) in
    let size_again : c.unsigned_abs-2.result ≡ unsigned_abs c.args.coefficient = search (rules, ints) in
    let within : unsigned_abs c.args.coefficient ≤ 2 ^ 62 = omega (arith, size, c.if-unsigned_abs-gt-EQUATION_NUMBER.false) in
    let product : c.product_at_last-far.result ≡ last_product (unknown c.args.coefficient c.args.values) =
    c.product_at_last-far.ensures.value ∙ ap (λ (z : ℤ). last_product (unknown z c.args.values)) read in
    let far : to_z w128 (of_z w128 c.product_at_last-far.result) ≡ c.product_at_last-far.result = search (rules, ints) in
    let least : to_z w128 (of_z w128 c.args.self.least) ≡ c.args.self.least = search (rules, ints) in
    let greatest : to_z w128 (of_z w128 c.args.self.greatest) ≡ c.args.self.greatest = search (rules, ints) in
    let lesser : to_z w128 (of_z w128 c.min.result) ≡ c.min.result = search (rules, ints) in
    let greater : to_z w128 (of_z w128 c.max.result) ≡ c.max.result = search (rules, ints) in
    let low : to_z w128 (of_z w128 c.saturating_add.result) ≡ c.saturating_add.result = search (rules, ints) in
    let high : to_z w128 (of_z w128 c.saturating_add-2.result) ≡ c.saturating_add-2.result = search (rules, ints) in
    let lower : to_z w128 (of_z w128 c.saturating_add.result) ≡ saturate_signed w128 (c.args.self.least +ℤ int_min c.product_at_last-far.result (pos 0)) =
    low ∙ c.saturating_add.ensures
    ∙ ap (λ (z : ℤ). saturate_signed w128 (z +ℤ to_z w128 (of_z w128 c.min.result))) least
    ∙ ap (λ (z : ℤ). saturate_signed w128 (c.args.self.least +ℤ z)) (lesser ∙ c.min.ensures.value ∙ ap (λ (z : ℤ). int_min z (pos 0)) far) in
    let higher : to_z w128 (of_z w128 c.saturating_add-2.result) ≡ saturate_signed w128 (c.args.self.greatest +ℤ int_max c.product_at_last-far.result (pos 0)) =
    high ∙ c.saturating_add-2.ensures
    ∙ ap (λ (z : ℤ). saturate_signed w128 (z +ℤ to_z w128 (of_z w128 c.max.result))) greatest
    ∙ ap (λ (z : ℤ). saturate_signed w128 (c.args.self.greatest +ℤ z)) (greater ∙ c.max.ensures.value ∙ ap (λ (z : ℤ). int_max z (pos 0)) far) in
    let gcd : IsGcd c.args.self.divisor (unsigned_abs c.args.coefficient) c.gcd.result =
    subst (λ (n : ℕ). IsGcd c.args.self.divisor n c.gcd.result) size_again c.gcd.ensures.divisor in
    λ us h. summarizes_push c.args.self us c.args.coefficient c.args.values c.gcd.result c.product_at_last-far.result _ _ h within product gcd lower higher
