use Rattle.std.specs.Prelude.{option_map}
use Rattle.std.proofs.Common.{subst}
use Rattle.ktree.specs.View.{items_of}
use Rattle.flow_scan.specs.Parts.{cut}
use Rattle.flow_scan.specs.Views.{line_said}
use Rattle.flow_scan.proofs.CutLaw.{Says, cut_more, cut_found}
use Rattle.flow_scan.proofs.cutting.cut.Goals as goal

pub returns-in-Some : goal.returns-in-Some
returns-in-Some c =
    let text = c.args.directives.now in
    cut_found text c.args.items.now c.loop-index.index c.index-items-index.result (cut text (items_of c.args.items.now)) c.loop-index-test.true c.index-items-index.is (line_said c.in-Some.said)
    c.sides.result.0.now c.sides.result.1.now c.sides.ensures.front c.sides.ensures.back
    (subst (λ o. Says text c.index-items-index.result (option_map line_said o)) c.in-Some.is c.scan_item.ensures) c.loop-index.invariant

pub loop-index-preserved : goal.loop-index-preserved
loop-index-preserved c =
    let text = c.args.directives.now in
    cut_more text c.args.items.now c.loop-index.index c.index-items-index.result (cut text (items_of c.args.items.now)) c.loop-index-test.true c.index-items-index.is
    (subst (λ o. Says text c.index-items-index.result (option_map line_said o)) c.in_default.is c.scan_item.ensures) c.loop-index.invariant
