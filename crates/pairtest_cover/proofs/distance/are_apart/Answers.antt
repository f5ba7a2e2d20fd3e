use Rattle.std.proofs.Common.{◌≡◌, ◌↔◌, ◌<◌, ℕ, ℤ, pos, ◌*ℤ◌, true, slice_index_or, to_z, of_z, ap, subst, arith, rules}
use mir.Syntax.{w64, w128}
use mir.Val.{SFits}
use Rattle.std.proofs.lemmas.Int.{to_z-of_z}
use Rattle.pairtest_cover.specs.Covered.{IsApart}
use Rattle.pairtest_cover.proofs.Zipped.{numbers_more}
use Rattle.pairtest_cover.proofs.Sides.{apart_decided}
use Rattle.pairtest_cover.proofs.distance.are_apart.Goals as goal

pub loop-at-preserved : goal.loop-at-preserved
loop-at-preserved c =
    let step : ℤ = slice_index_or c.args.sink.now c.loop-at.at (pos 0) in
    let fits : SFits w64 (slice_index_or c.args.sink.now c.loop-at.at (pos 0)) = search rules in
    let times : ℤ = to_z w128 (of_z w128 c.args.times) in
    numbers_more {P = λ (k : ℕ). IsApart c.args.nest.now c.args.x.now c.args.y.now k (times *ℤ slice_index_or c.args.sink.now k (pos 0))} c.loop-at.at c.loop-at.all _ c.loop-at.invariant
    (apart_decided c.args.nest.now c.args.x.now c.args.y.now c.loop-at.at (times *ℤ step) (times *ℤ to_z w64 (of_z w64 step)) c.stands.result c.are_equal.result
    (ap (λ (z : ℤ). times *ℤ z) (to_z-of_z w64 step fits)) c.stands.ensures c.are_equal.ensures)

pub returns : goal.returns
returns c =
    let read : to_z w128 (of_z w128 c.args.times) ≡ c.args.times = to_z-of_z w128 c.args.times c.ranges.times in
    let all : (c.loop-at.all ≡ true) ↔ ((k : ℕ) → k < c.loop-at.at → IsApart c.args.nest.now c.args.x.now c.args.y.now k (c.args.times *ℤ slice_index_or c.args.sink.now k (pos 0))) =
    subst (λ (m : ℤ). (c.loop-at.all ≡ true) ↔ ((k : ℕ) → k < c.loop-at.at → IsApart c.args.nest.now c.args.x.now c.args.y.now k (m *ℤ slice_index_or c.args.sink.now k (pos 0)))) read c.loop-at.invariant in
    (λ t k l. all.0 t k (omega arith), λ h. all.1 (λ k l. h k (omega arith)))
