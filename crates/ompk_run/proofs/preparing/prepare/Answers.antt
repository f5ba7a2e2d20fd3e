use Rattle.std.proofs.Common.{◌≡◌, ◌<◌, [], map, sym, ap, ◌∙◌, subst}
use Rattle.semantics.specs.Meaning.Agrees.{declared_among}
use Rattle.ktree.specs.View.{kernel_of, items_of}
use Rattle.law_apart.specs.Apart.{apart_items}
use Rattle.lower_code.specs.Layout.{shapes_of, shapes_in}
use Rattle.lower_code.specs.Meaning.{AreBelow}
use Rattle.lower_code.proofs.Laying.{as_many}
use Rattle.flow_doacross.specs.Views.{nest_part}
use Rattle.flow_scan.specs.Views.{scan_part}
use Rattle.outline.specs.Accepted.{HaveRightLoops}
use Rattle.outline.specs.Handed.{AreOfText}
use Rattle.deptest.specs.Accepted.{tree_of, data_passed}
use Rattle.ompk_run.proofs.Listed.{are_of_text}
use Rattle.ompk_run.proofs.Numbered.{of_among}
use Rattle.ompk_run.proofs.Placed.{placed}
use Rattle.ompk_run.proofs.RightLoops.{right_loops}
use Rattle.ompk_run.proofs.Readied.{said_by, said_same, fitted, prepared}
use Rattle.ompk_run.proofs.preparing.prepare.Goals as goal

pub outline-requires : goal.outline-requires
outline-requires c =
    let a = c.args.checked.now in
    let k = kernel_of a.kernel in
    let layout = c.in_ok-layout.layout.items in
    let mark = c.mark_among-mark.result in
    let keeps = c.parallel-parallel.ensures.keeps in
    let passed = keeps.accepted.passed in
    let loops = c.parallel-parallel.result.now.loops.items in
    let shapes : shapes_of layout ≡ shapes_in (tree_of a).variables = c.in_ok-layout.ensures.shapes ∙ ap shapes_in c.declarations-declarations.ensures.variables in
    let below = subst (λ is. AreBelow mark (declared_among (items_of is))) c.body-body.ensures c.mark_among-mark.ensures.below in
    let places = placed a.text k passed layout mark c.args.store.now c.in_ok-layout.ensures.laid shapes (shapes ∙ sym c.requires) c.in_ok-registers.ensures.filled c.in_ok-registers.ensures.room (as_many layout k.variables shapes)
    (λ x e. of_among (λ y. y < mark) (declared_among k.body) x below e) in
    let right = right_loops a.text (data_passed passed) k loops layout mark keeps.listed passed.nested places in
    subst (λ l. HaveRightLoops l mark c.as_slice-2.result.now [] (items_of c.body-body.result.now)) (sym c.as_slice.ensures.value)
    (subst (λ ls. HaveRightLoops layout mark ls [] (items_of c.body-body.result.now)) (sym c.as_slice-2.ensures.value)
    (subst (λ is. HaveRightLoops layout mark loops [] (items_of is)) (sym c.body-body.ensures) right))

pub returns-clause-prepared : goal.returns-clause-prepared
returns-clause-prepared c =
    let a = c.args.checked.now in
    let layout = c.in_ok-layout.layout.items in
    let mark = c.mark_among-mark.result in
    let kept = c.parallel-parallel.ensures in
    let keeps = kept.keeps in
    let loops = c.as_slice-2.result.now in
    let R = data_passed keeps.accepted.passed in
    let shapes : shapes_of layout ≡ shapes_in (tree_of a).variables = c.in_ok-layout.ensures.shapes ∙ ap shapes_in c.declarations-declarations.ensures.variables in
    let listed = subst (λ ls. AreOfText a.text R ls) (sym c.as_slice-2.ensures.value) (are_of_text a.text R (kernel_of a.kernel) c.parallel-parallel.result.now.loops.items keeps.listed) in
    let told = said_same (sym kept.scans_are ∙ ap (map scan_part) (sym c.as_slice-3.ensures.value)) (sym kept.nests_are ∙ ap (map nest_part) (sym c.as_slice-4.ensures.value)) in
    let fits = rw c.as_slice.ensures.value at c.in_ok-outline.ensures.fits in
    prepared a c.in_ok-outline.outline.items c.in_ok-registers.registers.items c.args.store.now layout mark keeps.accepted
    (c.in_ok-outline.ensures.is R ∙ ap (λ is. apart_items R [] (items_of is)) c.body-body.ensures)
    c.in_ok-layout.ensures.laid shapes c.requires
    (subst (λ is. AreBelow mark (declared_among (items_of is))) c.body-body.ensures c.mark_among-mark.ensures.below)
    (fitted a c.in_ok-outline.outline.items layout mark keeps.accepted c.body-body.result.now loops (said_by (map scan_part c.as_slice-3.result.now) (map nest_part c.as_slice-4.result.now)) c.body-body.ensures shapes listed told fits)
    c.in_ok-registers.ensures.wide c.in_ok-registers.ensures.words c.in_ok-registers.ensures.room c.in_ok-registers.ensures.filled
