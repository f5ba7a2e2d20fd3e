use Rattle.std.specs.Prelude.{◌≤◌, ◌*◌, ◌^◌, List}
use Rattle.std.proofs.Common.{sym, subst}
use Rattle.std.specs.Option.{SomeIff}
use Rattle.nest_space.specs.Space.{Turns, product}
use Rattle.nest_space.proofs.iterations.+product.Goals as goal

pub returns-in-Some : goal.returns-in-Some
returns-in-Some t c =
    let whole = c.product_within.ensures (product c.in-Some.rest.now) c.product.ensures in
    subst (λ (ts : List Turns). SomeIff c.product_within.result (product ts ≤ 2 ^ 24) (product ts)) (sym c.in-Some.ensures.cases.0)
    (subst (λ n. SomeIff c.product_within.result (n * product c.in-Some.rest.now ≤ 2 ^ 24) (n * product c.in-Some.rest.now)) c.count.ensures whole)
