use Rattle.std.proofs.Common.{refl, subst, sym, ap, ◌∙◌}
use Rattle.std.proofs.lemmas.Option.{slice_get_read}
use Rattle.std.proofs.lemmas.Result.{IfOk-weaker, IfOk-at_ok}
use Rattle.ktree.specs.View.{expr_of, exprs_of, cond_of, binary_of, unary_of, compare_of}
use Rattle.ktree.proofs.Trees.{object_is}
use Rattle.lower_machine.specs.declared.term.Term.{Term, Local}
use Rattle.lower_machine.specs.declared.term.Test.{Test}
use Rattle.lower_machine.specs.Machine.{worth}
use Rattle.lower_code.specs.Meaning.{MeansValue, MeansTest}
use Rattle.lower_code.proofs.Values.{unary_means, binary_means, conditional_means, compare_means, not_zero_means, not_means, both_means, either_means, local_means, element_means, under_on, place_means}
use Rattle.lower_code.proofs.expression.+expression.Goals as goal

pub value-returns-in_ok-a-in-Binary-2 : goal.value-returns-in_ok-a-in-Binary-2
value-returns-in_ok-a-in-Binary-2 t c =
    let layout = c.args.layout.now in
    let p = c.in_ok-a-in-Binary-2 in
    let a = subst (λ e. MeansValue layout (expr_of e) p.a) c.deref-in-Binary.ensures (subst (MeansValue layout (expr_of c.deref-in-Binary.result.now)) (sym p.ensures.before) c.in_ok-a-in-Binary.ensures) in
    let b = subst (λ e. MeansValue layout (expr_of e) p.b) c.deref-in-Binary-2.ensures (IfOk-at_ok (MeansValue layout (expr_of c.deref-in-Binary-2.result.now)) p.ensures.next c.value-in-Binary-2.ensures) in
    IfOk-weaker c.binary.result _ _ (λ r is. subst (λ e. MeansValue layout (expr_of e) r) (sym c.in-Binary.is) (binary_means layout (binary_of c.in-Binary.op) (expr_of c.in-Binary.a.value) (expr_of c.in-Binary.b.value) p.a p.b r a b is)) c.binary.ensures

pub value-returns-in_ok-first-in-Conditional : goal.value-returns-in_ok-first-in-Conditional
value-returns-in_ok-first-in-Conditional t c =
    let layout = c.args.layout.now in
    let p = c.in_ok-c-in-Conditional-2 in
    let q = c.in_ok-first-in-Conditional in
    let z = subst (λ e. MeansTest layout (cond_of e) q.first.0) c.deref-in-Conditional.ensures (subst (λ (x : Test × Term). MeansTest layout (cond_of c.deref-in-Conditional.result.now) x.0) (sym q.ensures.before) (subst (MeansTest layout (cond_of c.deref-in-Conditional.result.now)) (sym p.ensures.before) c.in_ok-c-in-Conditional.ensures)) in
    let a = subst (λ e. MeansValue layout (expr_of e) q.first.1) c.deref-in-Conditional-2.ensures (subst (λ (x : Test × Term). MeansValue layout (expr_of c.deref-in-Conditional-2.result.now) x.1) (sym q.ensures.before) (IfOk-at_ok (MeansValue layout (expr_of c.deref-in-Conditional-2.result.now)) p.ensures.next c.value-in-Conditional.ensures)) in
    let b = subst (λ e. MeansValue layout (expr_of e) q.b) c.deref-in-Conditional-3.ensures (IfOk-at_ok (MeansValue layout (expr_of c.deref-in-Conditional-3.result.now)) q.ensures.next c.value-in-Conditional-2.ensures) in
    IfOk-weaker c.conditional.result _ _ (λ r is. subst (λ e. MeansValue layout (expr_of e) r) (sym c.in-Conditional.is) (conditional_means layout (cond_of c.in-Conditional.c.value) (expr_of c.in-Conditional.a.value) (expr_of c.in-Conditional.b.value) q.first.0 q.first.1 q.b r z a b is)) c.conditional.ensures

pub test-returns-in_ok-a-in-Compare-2 : goal.test-returns-in_ok-a-in-Compare-2
test-returns-in_ok-a-in-Compare-2 t c =
    let layout = c.args.layout.now in
    let p = c.in_ok-a-in-Compare-2 in
    let a = subst (λ e. MeansValue layout (expr_of e) p.a) c.deref-in-Compare.ensures (subst (MeansValue layout (expr_of c.deref-in-Compare.result.now)) (sym p.ensures.before) c.in_ok-a-in-Compare.ensures) in
    let b = subst (λ e. MeansValue layout (expr_of e) p.b) c.deref-in-Compare-2.ensures (IfOk-at_ok (MeansValue layout (expr_of c.deref-in-Compare-2.result.now)) p.ensures.next c.value-in-Compare-2.ensures) in
    IfOk-weaker c.comparison-in-Compare.result _ _ (λ r is. subst (λ e. MeansTest layout (cond_of e) r) (sym c.in-Compare.is) (compare_means layout (compare_of c.in-Compare.op) (expr_of c.in-Compare.a.value) (expr_of c.in-Compare.b.value) p.a p.b r a b is)) c.comparison-in-Compare.ensures

pub test-returns-in_ok-c-in-Not : goal.test-returns-in_ok-c-in-Not
test-returns-in_ok-c-in-Not t c =
    let layout = c.args.layout.now in
    let x = subst (λ e. MeansTest layout (cond_of e) c.in_ok-c-in-Not.c) c.deref-in-Not.ensures c.in_ok-c-in-Not.ensures in
    IfOk-weaker c.negation.result _ _ (λ r is. subst (λ e. MeansTest layout (cond_of e) r) (sym c.in-Not.is) (not_means layout (cond_of c.in-Not.c.value) c.in_ok-c-in-Not.c r x is)) c.negation.ensures

pub test-returns-in_ok-c-in-LogicalAnd-2 : goal.test-returns-in_ok-c-in-LogicalAnd-2
test-returns-in_ok-c-in-LogicalAnd-2 t c =
    let layout = c.args.layout.now in
    let p = c.in_ok-c-in-LogicalAnd-2 in
    let x = subst (λ e. MeansTest layout (cond_of e) p.c) c.deref-in-LogicalAnd.ensures (subst (MeansTest layout (cond_of c.deref-in-LogicalAnd.result.now)) (sym p.ensures.before) c.in_ok-c-in-LogicalAnd.ensures) in
    let y = subst (λ e. MeansTest layout (cond_of e) p.d) c.deref-in-LogicalAnd-2.ensures (IfOk-at_ok (MeansTest layout (cond_of c.deref-in-LogicalAnd-2.result.now)) p.ensures.next c.test-in-LogicalAnd-2.ensures) in
    IfOk-weaker c.both.result _ _ (λ r is. subst (λ e. MeansTest layout (cond_of e) r) (sym c.in-LogicalAnd.is) (both_means layout (cond_of c.in-LogicalAnd.c.value) (cond_of c.in-LogicalAnd.d.value) p.c p.d r x y is)) c.both.ensures

pub test-returns-in_ok-c-in-LogicalOr-2 : goal.test-returns-in_ok-c-in-LogicalOr-2
test-returns-in_ok-c-in-LogicalOr-2 t c =
    let layout = c.args.layout.now in
    let p = c.in_ok-c-in-LogicalOr-2 in
    let x = subst (λ e. MeansTest layout (cond_of e) p.c) c.deref-in-LogicalOr.ensures (subst (MeansTest layout (cond_of c.deref-in-LogicalOr.result.now)) (sym p.ensures.before) c.in_ok-c-in-LogicalOr.ensures) in
    let y = subst (λ e. MeansTest layout (cond_of e) p.d) c.deref-in-LogicalOr-2.ensures (IfOk-at_ok (MeansTest layout (cond_of c.deref-in-LogicalOr-2.result.now)) p.ensures.next c.test-in-LogicalOr-2.ensures) in
    IfOk-weaker c.either.result _ _ (λ r is. subst (λ e. MeansTest layout (cond_of e) r) (sym c.in-LogicalOr.is) (either_means layout (cond_of c.in-LogicalOr.c.value) (cond_of c.in-LogicalOr.d.value) p.c p.d r x y is)) c.either.ensures

pub value-returns-in-Object : goal.value-returns-in-Object
value-returns-in-Object t c =
    let layout = c.args.layout.now in
    let same = sym (object_is c.args.expr.now c.in-Object.x c.in-Object.subscripts c.in-Object._mention _ c.in-Object.is c.deref.ensures.value) in
    IfOk-weaker c.object.result _ _ (λ r is. subst (λ e. MeansValue layout e r) same is) c.object.ensures

pub object-returns-in_ok-at : goal.object-returns-in_ok-at
object-returns-in_ok-at t c =
    IfOk-weaker c.element.result _ _ (λ r is. element_means c.args.layout.now c.args.variable.0 (exprs_of c.args.subscripts.now) c.in_ok-at.at r c.if-variable-layout.true c.in_ok-at.ensures is) c.element.ensures

pub object-returns-else-variable-layout : goal.object-returns-else-variable-layout
object-returns-else-variable-layout t c = local_means c.args.layout.now c.args.variable.0 (exprs_of c.args.subscripts.now) (Local (record { at = c.args.variable.0 })) c.if-variable-layout.false (λ m. refl)

pub value-returns-in_ok-a-in-Unary : goal.value-returns-in_ok-a-in-Unary
value-returns-in_ok-a-in-Unary t c =
    let layout = c.args.layout.now in
    let a = subst (λ e. MeansValue layout (expr_of e) c.in_ok-a-in-Unary.a) c.deref-in-Unary.ensures c.in_ok-a-in-Unary.ensures in
    IfOk-weaker c.unary.result _ _ (λ r is. subst (λ e. MeansValue layout (expr_of e) r) (sym c.in-Unary.is) (unary_means layout (unary_of c.in-Unary.op) (expr_of c.in-Unary.a.value) c.in_ok-a-in-Unary.a r a is)) c.unary.ensures

pub test-returns-in_ok-a-in-NotZero : goal.test-returns-in_ok-a-in-NotZero
test-returns-in_ok-a-in-NotZero t c =
    let layout = c.args.layout.now in
    let a = subst (λ e. MeansValue layout (expr_of e) c.in_ok-a-in-NotZero.a) c.deref.ensures c.in_ok-a-in-NotZero.ensures in
    IfOk-weaker c.comparison.result _ _ (λ r is. subst (λ e. MeansTest layout (cond_of e) r) (sym c.in-NotZero.is) (not_zero_means layout (expr_of c.in-NotZero.a.value) c.in_ok-a-in-NotZero.a c.number.result r a c.number.ensures is)) c.comparison.ensures

pub place-loop-d-preserved : goal.place-loop-d-preserved
place-loop-d-preserved t c =
    under_on c.args.layout.now c.index-layout-variable.result.lengths.items c.args.subscripts.now c.loop-d.d c.loop-d.at c.number.result c.in_ok-row-2.row c.in_ok-row-2.index c.in_ok-at.at c.length_of.result c.index-subscripts-d.result
    c.loop-d-test.true c.index-subscripts-d.is (rw c.deref.ensures.value at c.length_of.ensures) c.loop-d.invariant (IfOk-at_ok (MeansValue c.args.layout.now (expr_of c.index-subscripts-d.result)) c.in_ok-row-2.ensures.next c.value.ensures) c.number.ensures (λ m. ap (λ t. worth t m) c.in_ok-row-2.ensures.before ∙ c.in_ok-row.ensures m) c.in_ok-at.ensures

pub place-returns : goal.place-returns
place-returns t c =
    IfOk-weaker c.binary-2.result _ _ (λ r is. place_means c.args.layout.now c.args.variable.0 c.index-layout-variable.result c.args.subscripts.now c.loop-d.d c.loop-d.at c.number-2.result r (slice_get_read c.args.layout.now _ c.args.variable.0 c.index-layout-variable.result refl c.requires c.index-layout-variable.is) c.loop-d-test.false c.loop-d.invariant c.number-2.ensures is) c.binary-2.ensures
