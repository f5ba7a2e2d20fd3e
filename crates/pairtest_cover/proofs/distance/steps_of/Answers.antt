use Rattle.std.proofs.Common.{◌≡◌, ◌<◌, ℤ, pos, ◌*ℤ◌, slice_index_or, length, to_z, of_z, inl, inr, refl, sym, ap, ◌∙◌, subst, arith, rules}
use mir.Syntax.{w64}
use mir.Val.{SFits}
use Rattle.std.proofs.lemmas.Int.{to_z-of_z}
use Rattle.pairtest_cover.specs.Covered.{IsApart}
use Rattle.pairtest_cover.proofs.Covering.{nowhere_apart}
use Rattle.pairtest_cover.proofs.distance.steps_of.Goals as goal

pub returns-then-sink-at-ne0 : goal.returns-then-sink-at-ne0
returns-then-sink-at-ne0 c =
    let step : ℤ = slice_index_or c.args.sink.now c.loop-at.at (pos 0) in
    let fits : SFits w64 (slice_index_or c.args.sink.now c.loop-at.at (pos 0)) = search rules in
    let read : to_z w64 (of_z w64 step) ≡ step = to_z-of_z w64 step fits in
    let there : c.loop-at.at < length c.args.nest.now.loops.items = omega (arith, c.loop-at-test.true, c.requires) in
    λ m h. inl (c.steps_at.ensures m (λ q. c.if-sink-at-ne0.true (ap (of_z w64) (sym read ∙ q)))
    (subst (λ (z : ℤ). IsApart c.args.nest.now c.args.x.now c.args.y.now c.loop-at.at (m *ℤ z)) (sym read) (h c.loop-at.at there)))

pub returns : goal.returns
returns c = λ m h. inr (refl, nowhere_apart c.args.nest.now c.args.x.now c.args.y.now c.args.sink.now m (λ k l. c.loop-at.invariant k (omega arith)) h)
