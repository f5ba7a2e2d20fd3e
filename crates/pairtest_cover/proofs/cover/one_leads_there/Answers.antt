use Rattle.std.proofs.Common.{◌≡◌, ◌↔◌, List, true, map, take, length, Any, subst, arith}
use Rattle.std.proofs.lemmas.List.{length-map, take_all}
use Rattle.semantics.specs.Loops.Order.{Distance}
use Rattle.pairtest_cover.specs.Along.{LeadsThere}
use Rattle.pairtest_cover.proofs.Zipped.{some_more}
use Rattle.pairtest_cover.proofs.Sides.{map_item}
use Rattle.pairtest_cover.proofs.cover.one_leads_there.Goals as goal

pub loop-sink-preserved : goal.loop-sink-preserved
loop-sink-preserved c =
    let ds = map (λ d. d.items) c.args.sinks.now in
    let i = c.loop-sink.sink-index in
    let long : length ds ≡ length c.args.sinks.now = length-map c.args.sinks.now (λ d. d.items) in
    some_more (LeadsThere c.args.nest.now c.args.x.now c.args.y.now) ds i c.deref.result.now c.loop-sink.any c.leads_there-any.result (omega (arith, long, c.loop-sink-test.true))
    c.loop-sink.invariant
    (subst (λ (d : Distance). (c.leads_there-any.result ≡ true) ↔ LeadsThere c.args.nest.now c.args.x.now c.args.y.now d)
    (map_item (λ d. d.items) c.args.sinks.now i c.sink-item.result c.deref.result.now c.loop-sink-test.true c.sink-item.is c.deref.ensures.value) c.leads_there-any.ensures)

pub returns : goal.returns
returns c =
    let ds = map (λ d. d.items) c.args.sinks.now in
    let long : length ds ≡ length c.args.sinks.now = length-map c.args.sinks.now (λ d. d.items) in
    let whole : take c.loop-sink.sink-index ds ≡ ds = take_all c.loop-sink.sink-index ds (omega (arith, long)) in
    subst (λ (es : List Distance). (c.loop-sink.any ≡ true) ↔ Any (LeadsThere c.args.nest.now c.args.x.now c.args.y.now) es) whole c.loop-sink.invariant
