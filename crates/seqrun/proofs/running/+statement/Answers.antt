use Rattle.std.proofs.Common.{rules, ◌+◌, ◌-◌, drop, Option, Some, IsSome, Bool, refl, sym, ap, ◌∙◌, subst, arith}
use Rattle.std.specs.Result.{OnOk}
use Rattle.semantics.specs.Meaning.State.{State}
use Rattle.semantics.specs.Meaning.Value.{holds}
use Rattle.semantics.specs.Meaning.Runs.{Effect, then_from, run, run_items, turns, greatest_trip_count, incremented}
use Rattle.ktree.specs.declared.expression.Cond.{Cond}
use Rattle.ktree.specs.declared.statement.Increment.{Increment}
use Rattle.ktree.specs.declared.statement.Item.{the_lemmas}
use Rattle.ktree.specs.View.{cond_of, increment_of, source_of, stmt_of, items_of}
use Rattle.seqrun_value.specs.Standing.{standing}
use Rattle.seqrun_io.specs.Told.{AddsBeginning}
use Rattle.seqrun.specs.Ran.{Ran, text_of}
use Rattle.ktree.proofs.Trees.{block_items}
use Rattle.seqrun.proofs.BlockLemmas.{items_on, item_on, single_item}
use Rattle.seqrun.proofs.RunLemmas.{going_from, going_same, going_on, going_over, going_stops, going_begun, ran_from_ended, rest_some, first_some, loop_begun, test_some, after_body, body_begun, turns_over, turns_on, turns_last}
use Rattle.seqrun.proofs.running.+statement.Goals as goal

abbrev test_of : Cond → State → Option Bool
test_of test u = holds u (cond_of test)

abbrev step_of : Increment → State → Option Effect
step_of step u = incremented u (increment_of step)

pub statement-block-requires : goal.statement-block-requires
statement-block-requires g t c κs within =
    let h = subst (λ s. IsSome (run (stmt_of s) (standing c.args.frame.now c.args.store.now))) c.in-Block.is c.requires.runs in
    let h' = subst (λ s. IsSome (run s (standing c.args.frame.now c.args.store.now))) (block_items c.in-Block.items) h in
    (search (rules, the_lemmas), (within, (c.requires.room, rw c.deref-in-Block.ensures.value h')))

pub statement-returns-in-Block-clause-ran : goal.statement-returns-in-Block-clause-ran
statement-returns-in-Block-clause-ran g t c =
    let s = standing c.args.frame.now c.args.store.now in
    let same = ap (λ x. run (stmt_of x) s) c.in-Block.is ∙ ap (λ x. run x s) (block_items c.in-Block.items) ∙ ap (λ xs. run_items (items_of xs) s) (sym c.deref-in-Block.ensures.value) in
    subst (λ o. OnOk c.block.result (Ran o s (standing c.block.new.frame c.block.new.store) (g.S.Sink.told c.args.sink.now) (g.S.Sink.told c.block.new.sink))) (sym same) c.block.ensures.ran

pub statement-returns-in-Block-clause-beginning : goal.statement-returns-in-Block-clause-beginning
statement-returns-in-Block-clause-beginning g t c =
    let s = standing c.args.frame.now c.args.store.now in
    let same = ap (λ x. run (stmt_of x) s) c.in-Block.is ∙ ap (λ x. run x s) (block_items c.in-Block.items) ∙ ap (λ xs. run_items (items_of xs) s) (sym c.deref-in-Block.ensures.value) in
    subst (λ o. AddsBeginning (g.S.Sink.told c.args.sink.now) (g.S.Sink.told c.block.new.sink) (text_of o)) (sym same) c.block.ensures.beginning

pub run_body-run_few-requires : goal.run_body-run_few-requires
run_body-run_few-requires g t c κs within =
    let h = subst (λ s. IsSome (run (stmt_of s) (standing c.args.frame.now c.args.store.now))) c.in-Block.is c.requires.runs in
    let h' = subst (λ s. IsSome (run s (standing c.args.frame.now c.args.store.now))) (block_items c.in-Block.items) h in
    (search (rules, the_lemmas), (within, (c.requires.room, rw c.deref.ensures.value h')))

pub run_body-returns-in-Block-clause-ran : goal.run_body-returns-in-Block-clause-ran
run_body-returns-in-Block-clause-ran g t c =
    let s = standing c.args.frame.now c.args.store.now in
    let same = ap (λ x. run (stmt_of x) s) c.in-Block.is ∙ ap (λ x. run x s) (block_items c.in-Block.items) ∙ ap (λ xs. run_items (items_of xs) s) (sym c.deref.ensures.value) in
    subst (λ o. OnOk c.run_few.result (Ran o s (standing c.run_few.new.frame c.run_few.new.store) (g.S.Sink.told c.args.sink.now) (g.S.Sink.told c.run_few.new.sink))) (sym same) c.run_few.ensures.ran

pub run_body-returns-in-Block-clause-beginning : goal.run_body-returns-in-Block-clause-beginning
run_body-returns-in-Block-clause-beginning g t c =
    let s = standing c.args.frame.now c.args.store.now in
    let same = ap (λ x. run (stmt_of x) s) c.in-Block.is ∙ ap (λ x. run x s) (block_items c.in-Block.items) ∙ ap (λ xs. run_items (items_of xs) s) (sym c.deref.ensures.value) in
    subst (λ o. AddsBeginning (g.S.Sink.told c.args.sink.now) (g.S.Sink.told c.run_few.new.sink) (text_of o)) (sym same) c.run_few.ensures.beginning

pub statement-loop-turn-init : goal.statement-loop-turn-init
statement-loop-turn-init g t c =
    let s = standing c.args.frame.now c.args.store.now in
    (rw c.in-For.is (loop_begun (test_of c.in-For.head.test) (run (stmt_of c.in-For.body.value)) (step_of c.in-For.head.step) s (standing c.set.new.self c.args.store.now) c.in-For.head.variable.0 (source_of c.in-For.head.start) c.source_value-first.result (g.S.Sink.told c.args.sink.now) c.source_value-first.ensures (c.in_ok-set-in-For.ensures.ok c.args.store.now)), refl, refl)

pub statement-holds-requires-in-loop-turn : goal.statement-holds-requires-in-loop-turn
statement-holds-requires-in-loop-turn g t c =
    test_some (test_of c.in-For.head.test) (run (stmt_of c.in-For.body.value)) (step_of c.in-For.head.step) (greatest_trip_count - c.loop-turn._turn) (standing c.loop-turn.frame c.loop-turn.store)
    (rest_some _ _ _ _ _ _ c.loop-turn.invariant.0 c.requires.runs)

pub statement-returns-then-not-holds-clause-ran : goal.statement-returns-then-not-holds-clause-ran
statement-returns-then-not-holds-clause-ran g t c = going_over _ _ _ _ _
    (going_same _ _ _ _ _ _ _
    (turns_over (test_of c.in-For.head.test) (run (stmt_of c.in-For.body.value)) (step_of c.in-For.head.step) (greatest_trip_count - c.loop-turn._turn) (standing c.loop-turn.frame c.loop-turn.store) (c.holds-in-loop-turn.ensures ∙ ap Some c.if-not-holds.true))
    c.loop-turn.invariant.0)

pub statement-returns-then-not-holds-clause-beginning : goal.statement-returns-then-not-holds-clause-beginning
statement-returns-then-not-holds-clause-beginning g t c = going_stops _ _ _ _ _ _ c.loop-turn.invariant.0 c.requires.runs

pub statement-run_body-requires-in-loop-turn : goal.statement-run_body-requires-in-loop-turn
statement-run_body-requires-in-loop-turn g t c κs within =
    let on = turns_on (test_of c.in-For.head.test) (run (stmt_of c.in-For.body.value)) (step_of c.in-For.head.step) c.loop-turn._turn (standing c.loop-turn.frame c.loop-turn.store) c.loop-turn-test.true (c.holds-in-loop-turn.ensures ∙ ap Some c.if-not-holds.false) in
    let s = standing c.loop-turn.frame c.loop-turn.store in
    let h = first_some s (run (stmt_of c.in-For.body.value) s) (λ u. then_from u (step_of c.in-For.head.step u) (turns (greatest_trip_count - (c.loop-turn._turn + 1)) (test_of c.in-For.head.test) (run (stmt_of c.in-For.body.value)) (step_of c.in-For.head.step))) (rest_some _ _ _ _ _ _ (going_same _ _ _ _ _ _ _ on c.loop-turn.invariant.0) c.requires.runs) in
    (search (rules, the_lemmas), (within, (rw c.loop-turn.invariant.1 c.requires.room, rw c.deref-in-loop-turn.ensures h)))

pub statement-returns-in_err-run_body-in-For-clause-beginning : goal.statement-returns-in_err-run_body-in-For-clause-beginning
statement-returns-in_err-run_body-in-For-clause-beginning g t c =
    body_begun (test_of c.in-For.head.test) (run (stmt_of c.in-For.body.value)) (step_of c.in-For.head.step) _ c.loop-turn._turn _ _ _ _ _ c.loop-turn-test.true (c.holds-in-loop-turn.ensures ∙ ap Some c.if-not-holds.false) c.loop-turn.invariant.0 c.requires.runs
    (rw c.deref-in-loop-turn.ensures at c.in_err-run_body-in-For.ensures.beginning)

pub statement-increment-requires : goal.statement-increment-requires
statement-increment-requires g t c =
    let k = after_body (test_of c.in-For.head.test) (run (stmt_of c.in-For.body.value)) (step_of c.in-For.head.step) _ c.loop-turn._turn _ _ (standing c.run_body-in-loop-turn.new.frame c.run_body-in-loop-turn.new.store) _ _ (g.S.Sink.told c.run_body-in-loop-turn.new.sink) c.loop-turn-test.true (c.holds-in-loop-turn.ensures ∙ ap Some c.if-not-holds.false) c.loop-turn.invariant.0 (rw c.deref-in-loop-turn.ensures at c.in_ok-run_body-in-For.ensures.ran) in
    first_some (standing c.run_body-in-loop-turn.new.frame c.run_body-in-loop-turn.new.store) _ (turns (greatest_trip_count - (c.loop-turn._turn + 1)) (test_of c.in-For.head.test) (run (stmt_of c.in-For.body.value)) (step_of c.in-For.head.step)) (rest_some _ _ _ _ _ _ k c.requires.runs)

pub statement-returns-in_err-increment-in-For-clause-beginning : goal.statement-returns-in_err-increment-in-For-clause-beginning
statement-returns-in_err-increment-in-For-clause-beginning g t c =
    let k = after_body (test_of c.in-For.head.test) (run (stmt_of c.in-For.body.value)) (step_of c.in-For.head.step) _ c.loop-turn._turn _ _ (standing c.run_body-in-loop-turn.new.frame c.run_body-in-loop-turn.new.store) _ _ (g.S.Sink.told c.run_body-in-loop-turn.new.sink) c.loop-turn-test.true (c.holds-in-loop-turn.ensures ∙ ap Some c.if-not-holds.false) c.loop-turn.invariant.0 (rw c.deref-in-loop-turn.ensures at c.in_ok-run_body-in-For.ensures.ran) in
    going_stops _ _ _ _ _ _ k c.requires.runs

pub statement-loop-turn-preserved : goal.statement-loop-turn-preserved
statement-loop-turn-preserved g t c =
    let k = after_body (test_of c.in-For.head.test) (run (stmt_of c.in-For.body.value)) (step_of c.in-For.head.step) _ c.loop-turn._turn _ _ (standing c.run_body-in-loop-turn.new.frame c.run_body-in-loop-turn.new.store) _ _ (g.S.Sink.told c.run_body-in-loop-turn.new.sink) c.loop-turn-test.true (c.holds-in-loop-turn.ensures ∙ ap Some c.if-not-holds.false) c.loop-turn.invariant.0 (rw c.deref-in-loop-turn.ensures at c.in_ok-run_body-in-For.ensures.ran) in (
      going_on _ _ (turns (greatest_trip_count - (c.loop-turn._turn + 1)) (test_of c.in-For.head.test) (run (stmt_of c.in-For.body.value)) (step_of c.in-For.head.step)) _ _ _ _ _ _ k (ran_from_ended _ _ _ _ c.in_ok-increment-in-For.ensures.done),
      c.in_ok-run_body-in-For.ensures.sound ∙ c.loop-turn.invariant.1,
      c.in_ok-increment-in-For.ensures.shape ∙ c.in_ok-run_body-in-For.ensures.shape ∙ c.loop-turn.invariant.2,
    )

pub statement-returns-after-loop-turn-clause-ran : goal.statement-returns-after-loop-turn-clause-ran
statement-returns-after-loop-turn-clause-ran g t c = going_over _ _ _ _ _
    (going_same _ _ _ _ _ _ _
    (turns_last (test_of c.in-For.head.test) (run (stmt_of c.in-For.body.value)) (step_of c.in-For.head.step) c.loop-turn._turn (standing c.loop-turn.frame c.loop-turn.store) (omega arith) (rest_some _ _ _ _ _ _ c.loop-turn.invariant.0 c.requires.runs))
    c.loop-turn.invariant.0)

pub statement-returns-after-loop-turn-clause-beginning : goal.statement-returns-after-loop-turn-clause-beginning
statement-returns-after-loop-turn-clause-beginning g t c = going_stops _ _ _ _ _ _ c.loop-turn.invariant.0 c.requires.runs

pub block-loop-item-init : goal.block-loop-item-init
block-loop-item-init g t c = (going_from _ _ _, refl, refl)

pub block-run_item-requires : goal.block-run_item-requires
block-run_item-requires g t c κs within =
    let s = standing c.loop-item.frame c.loop-item.store in
    let on = items_on c.args.items.now c.loop-item.item-index c.item-item.result c.loop-item-test.true c.item-item.is s ∙ item_on c.item-item.result (items_of (drop (c.loop-item.item-index + 1) c.args.items.now)) s in
    (search (rules, the_lemmas), (within, (rw c.loop-item.invariant.1 c.requires.room, first_some _ _ _ (rest_some _ _ _ _ _ _ (going_same _ _ _ _ _ _ _ on c.loop-item.invariant.0) c.requires.runs))))

pub block-returns-in_err-run_item-clause-beginning : goal.block-returns-in_err-run_item-clause-beginning
block-returns-in_err-run_item-clause-beginning g t c =
    let s = standing c.loop-item.frame c.loop-item.store in
    let on = items_on c.args.items.now c.loop-item.item-index c.item-item.result c.loop-item-test.true c.item-item.is s ∙ item_on c.item-item.result (items_of (drop (c.loop-item.item-index + 1) c.args.items.now)) s in
    going_begun _ _ (run_items (items_of (drop (c.loop-item.item-index + 1) c.args.items.now))) _ _ _ _ _ (going_same _ _ _ _ _ _ _ on c.loop-item.invariant.0) c.requires.runs c.in_err-run_item.ensures.beginning

pub block-loop-item-preserved : goal.block-loop-item-preserved
block-loop-item-preserved g t c =
    let s = standing c.loop-item.frame c.loop-item.store in
    let on = items_on c.args.items.now c.loop-item.item-index c.item-item.result c.loop-item-test.true c.item-item.is s ∙ item_on c.item-item.result (items_of (drop (c.loop-item.item-index + 1) c.args.items.now)) s in (
      going_on _ _ (run_items (items_of (drop (c.loop-item.item-index + 1) c.args.items.now))) _ _ _ _ _ _ (going_same _ _ _ _ _ _ _ on c.loop-item.invariant.0) c.in_ok-run_item.ensures.ran,
      c.in_ok-run_item.ensures.sound ∙ c.loop-item.invariant.1,
      c.in_ok-run_item.ensures.shape ∙ c.loop-item.invariant.2,
    )

pub run_few-run_item-requires : goal.run_few-run_item-requires
run_few-run_item-requires g t c κs within =
    let s = standing c.args.frame.now c.args.store.now in
    let one = single_item c.args.items.now c.index-items-0.result c.if-items-eq1.true c.index-items-0.is s in
    (search (rules, the_lemmas), (within, (c.requires.room, subst IsSome one c.requires.runs)))

pub run_few-returns-then-items-eq1-clause-ran : goal.run_few-returns-then-items-eq1-clause-ran
run_few-returns-then-items-eq1-clause-ran g t c =
    let s = standing c.args.frame.now c.args.store.now in
    let one = single_item c.args.items.now c.index-items-0.result c.if-items-eq1.true c.index-items-0.is s in
    subst (λ o. OnOk c.run_item.result (Ran o s (standing c.run_item.new.frame c.run_item.new.store) (g.S.Sink.told c.args.sink.now) (g.S.Sink.told c.run_item.new.sink))) (sym one) c.run_item.ensures.ran

pub run_few-returns-then-items-eq1-clause-beginning : goal.run_few-returns-then-items-eq1-clause-beginning
run_few-returns-then-items-eq1-clause-beginning g t c =
    let s = standing c.args.frame.now c.args.store.now in
    let one = single_item c.args.items.now c.index-items-0.result c.if-items-eq1.true c.index-items-0.is s in
    subst (λ o. AddsBeginning (g.S.Sink.told c.args.sink.now) (g.S.Sink.told c.run_item.new.sink) (text_of o)) (sym one) c.run_item.ensures.beginning
