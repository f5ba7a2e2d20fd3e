use Rattle.std.proofs.Common.{rules, ◌≡◌, ◌↔◌, ℤ, true, length, of_z, ap, subst, ◌∙◌}
use mir.Syntax.{w128}
use mir.Val.{SFits}
use Rattle.std.proofs.lemmas.Int.{to_z-of_z}
use Rattle.pairtest_cover.specs.Along.{AreApart}
use Rattle.pairtest_cover.proofs.Covering.{leads_decided}
use Rattle.pairtest_cover.proofs.distance.leads_there.Goals as goal

pub returns-then-times-ne0 : goal.returns-then-times-ne0
returns-then-times-ne0 c =
    let loops : c.len.result ≡ length c.args.nest.now.loops.items = search rules in
    let fits : SFits w128 c.in-Some.times = search rules in
    leads_decided c.args.nest.now c.args.x.now c.args.y.now c.args.sink.now c.in-Some.times c.are_apart.result (c.if-sink-len.false ∙ loops) (λ q. c.if-times-ne0.true (ap (of_z w128) q)) c.in-Some.ensures
    (subst (λ (m : ℤ). (c.are_apart.result ≡ true) ↔ AreApart c.args.nest.now c.args.x.now c.args.y.now c.args.sink.now m) (to_z-of_z w128 c.in-Some.times fits) c.are_apart.ensures)
