use Rattle.std.proofs.Common.{arith, subst, sym, ap, ◌∙◌, length, List, Option, ℕ}
use Rattle.std.specs.Global.{Vec}
use Rattle.std.proofs.lemmas.List.{length_push}
use Rattle.deptest_witness.specs.Elements.{access_of, region_of, AreElements}
use Rattle.deptest_witness.proofs.Finding.{elements_more}
use Rattle.deptest_witness.proofs.elements.elements.Goals as goal

pub loop-number-preserved : goal.loop-number-preserved
loop-number-preserved c =
    let region = region_of c.args.region.now in
    let access = access_of c.args.touch.now in
    let before = c.loop-number.elements.items in
    let more = elements_more region access before c.loop-number.number c.in_ok-element.field-0 c.loop-number.invariant.0 c.loop-number.invariant.1 c.in_ok-element.ensures in
    let one = length_push before c.in_ok-element.field-0 in
    (ap length c.in_ok-push.ensures.items ∙ omega arith, subst (AreElements region access) (sym {A = List (Option (Vec ℕ))} c.in_ok-push.ensures.items) more)
