use Rattle.std.specs.Prelude.{◌≡◌, ◌<◌}
use Rattle.std.proofs.Common.{sym, ap, ◌∙◌, subst, arith}
use Rattle.nest_space.specs.Numbers.{EachTurns}
use Rattle.nest_space.specs.Space.{vectors, product}
use Rattle.nest_space.proofs.Places.{each_turns}
use Rattle.nest_space.proofs.Before.{other_length, no_vectors}
use Rattle.nest_space.proofs.iterations.Space.number_before.Goals as goal

pub returns-then-distance-values : goal.returns-then-distance-values
returns-then-distance-values c = other_length (vectors c.args.self.now) c.args.values.now c.args.distance.now c.if-distance-values.true

pub returns-then-self-eq0 : goal.returns-then-self-eq0
returns-then-self-eq0 c =
    no_vectors c.args.self.now c.args.values.now c.args.distance.now (ap product (sym c.self.view_is) ∙ sym c.self.invariant.1 ∙ c.if-self-eq0.true)

pub number_at-requires-clause-turns : goal.number_at-requires-clause-turns
number_at-requires-clause-turns c =
    let some : c.self.inside.count ≡ 0 → ⊥ = c.if-self-eq0.false in
    let above : 0 < c.self.inside.count = omega (arith, some) in
    subst EachTurns (sym c.as_slice.ensures) (each_turns c.self.inside.loops.items (subst (λ n. 0 < n) c.self.invariant.1 above))
