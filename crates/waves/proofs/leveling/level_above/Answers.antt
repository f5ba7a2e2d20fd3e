use Rattle.std.proofs.Common.{arith, refl, sym, ap, ◌∙◌, map}
use Rattle.std.proofs.lemmas.Option.{slice_get_read}
use Rattle.semantics.specs.Loops.Order.{is_ahead}
use Rattle.nest_space.specs.Space.{vectors}
use Rattle.waves.proofs.Sorted.{sorted_vectors, level_step}
use Rattle.waves.proofs.Known.{max_zero, ahead_item, above_step}
use Rattle.waves.proofs.leveling.level_above.Goals as goal

pub loop-distance-init : goal.loop-distance-init
loop-distance-init c = (
  omega arith,
  max_zero _
      ∙ sym (level_step (vectors c.args.space.now) (map (λ d. d.items) c.args.distances.now) _ c.args.values.now (sorted_vectors c.args.space.now c.requires.rise) c.requires.ahead c.requires.at),
)

pub raised_level-above-requires-clause-ahead : goal.raised_level-above-requires-clause-ahead
raised_level-above-requires-clause-ahead c =
    let item = slice_get_read c.args.distances.now _ c.loop-distance.distance-index c.distance-item.result refl (omega arith) c.distance-item.is in
    ap is_ahead c.deref.ensures.value ∙ ahead_item (λ d. d.items) c.args.distances.now c.loop-distance.distance-index c.distance-item.result c.requires.ahead item

pub loop-distance-preserved : goal.loop-distance-preserved
loop-distance-preserved c =
    let item = slice_get_read c.args.distances.now _ c.loop-distance.distance-index c.distance-item.result refl (omega arith) c.distance-item.is in
    let ds = map (λ d. d.items) c.args.distances.now in (
      c.raised_level-above.ensures.small ds c.requires.levels c.loop-distance.invariant.0,
      above_step (vectors c.args.space.now) c.args.distances.now c.loop-distance.distance-index c.distance-item.result c.deref.result.now c.args.values.now c.loop-distance.above c.raised_level-above.result _ item c.deref.ensures.value
          (c.raised_level-above.ensures.above ds c.requires.levels) c.loop-distance.invariant.1,
    )
