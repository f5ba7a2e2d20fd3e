use Rattle.std.proofs.Common.{◌≡◌, ◌↔◌, ℤ, to_z, of_z, unsigned_abs, true, subst, rules}
use mir.Syntax.{w128}
use Rattle.std.specs.Int.{◌∣◌}
use Rattle.std.proofs.lemmas.Int.{ints}
use Rattle.pairtest.proofs.Summaries.{decided_by_divisor}
use Rattle.pairtest.proofs.reach.Reach.gcd_test.Goals as goal

pub returns : goal.returns
returns c =
    let right : to_z w128 (of_z w128 c.args.right) ≡ c.args.right = search (rules, ints) in
    let is : (c.divides.result ≡ true) ↔ (c.args.self.divisor ∣ unsigned_abs c.args.right) =
    subst (λ (n : ℤ). (c.divides.result ≡ true) ↔ (c.args.self.divisor ∣ unsigned_abs n)) right c.divides.ensures in
    λ us h. decided_by_divisor c.args.self us c.args.right c.divides.result h is
