use Rattle.std.proofs.Common.{subst, IfOk}
use Rattle.deptest_witness.specs.Elements.{access_of, region_of}
use Rattle.deptest_witness.proofs.Entering.{turns_found}
use Rattle.deptest_witness.proofs.Finding.{FoundIndexes, element_law}
use Rattle.deptest_witness.proofs.elements.element.Goals as goal

pub returns-in-Some : goal.returns-in-Some
returns-in-Some c =
    let touch = c.args.touch.now in
    let values = c.in_ok-values.values.items in
    element_law (region_of c.args.region.now) (access_of touch) c.args.number values c.in-Some.there.items c.indexes.result c.in_ok-values.ensures.value
    (turns_found touch.inner.now values c.in_ok-first_turns.field-0 c.in-Some.there c.in-Some.is c.in_ok-first_turns.ensures.turns)
    (subst (λ vs. IfOk c.indexes.result (FoundIndexes touch.subscripts.now vs)) c.deref.ensures.value c.indexes.ensures)
