use Rattle.std.proofs.Common.{drop, refl, ◌∙◌, arith}
use Rattle.std.proofs.lemmas.Result.{on_ok_weaker}
use Rattle.lower_run.specs.Walk.{stage}
use Rattle.ompk_run.proofs.Steps.{comes, comes_stops}
use Rattle.ompk_run.proofs.Turns.{OfItems, items_step, item_walked, item_begun, items_end, block_walked, block_begun, loop_entered, entry_begun, turns_stop, turns_end, turns_done, first_walked, first_begun, second_walked, second_begun, nothing_walked, body_walked, body_begun, step_walked, step_begun}
use Rattle.ompk_run.proofs.teaming.+teaming.Goals as goal

pub team_block-loop-item-init : goal.team_block-loop-item-init
team_block-loop-item-init g t c =
    let start = stage c.args.registers.now.items c.args.store.now (g.S.Sink.told c.args.sink.now) in
    (comes (OfItems c.args.items.now) (items_step c.args.items.now) start, refl, refl)

pub team_block-team_item-requires-clause-room : goal.team_block-team_item-requires-clause-room
team_block-team_item-requires-clause-room g t c κs within = rw c.loop-item.invariant.1 c.requires.room

pub team_block-returns-in_err-team_item-clause-beginning : goal.team_block-returns-in_err-team_item-clause-beginning
team_block-returns-in_err-team_item-clause-beginning g t c =
    let start = stage c.args.registers.now.items c.args.store.now (g.S.Sink.told c.args.sink.now) in
    let here = stage c.loop-item.registers.items c.loop-item.store (g.S.Sink.told c.loop-item.sink) in
    item_begun c.args.items.now c.loop-item.item-index c.item-item.result c.loop-item-test.true c.item-item.is start here c.loop-item.invariant.0 (g.S.Sink.told c.team_item.new.sink) c.in_err-team_item.ensures.beginning

pub team_block-loop-item-preserved : goal.team_block-loop-item-preserved
team_block-loop-item-preserved g t c =
    let start = stage c.args.registers.now.items c.args.store.now (g.S.Sink.told c.args.sink.now) in
    let here = stage c.loop-item.registers.items c.loop-item.store (g.S.Sink.told c.loop-item.sink) in
    let there = stage c.team_item.new.registers.items c.team_item.new.store (g.S.Sink.told c.team_item.new.sink) in (
      item_walked c.args.items.now c.loop-item.item-index c.item-item.result c.loop-item-test.true c.item-item.is start here c.loop-item.invariant.0 there c.in_ok-team_item.ensures.ran,
      c.in_ok-team_item.ensures.sound ∙ c.loop-item.invariant.1,
      c.in_ok-team_item.ensures.shape ∙ c.loop-item.invariant.2,
    )

pub team_block-returns-clause-ran : goal.team_block-returns-clause-ran
team_block-returns-clause-ran g t c =
    let start = stage c.args.registers.now.items c.args.store.now (g.S.Sink.told c.args.sink.now) in
    let here = stage c.loop-item.registers.items c.loop-item.store (g.S.Sink.told c.loop-item.sink) in
    items_end c.args.items.now c.loop-item.item-index start here c.loop-item-test.false c.loop-item.invariant.0

pub team_block-returns-clause-beginning : goal.team_block-returns-clause-beginning
team_block-returns-clause-beginning g t c =
    let start = stage c.args.registers.now.items c.args.store.now (g.S.Sink.told c.args.sink.now) in
    let here = stage c.loop-item.registers.items c.loop-item.store (g.S.Sink.told c.loop-item.sink) in
    comes_stops (OfItems c.args.items.now) (items_step c.args.items.now) (items_step (drop c.loop-item.item-index c.args.items.now)) start here c.loop-item.invariant.0

pub team_statement-returns-in_err-perform-in-For-clause-beginning : goal.team_statement-returns-in_err-perform-in-For-clause-beginning
team_statement-returns-in_err-perform-in-For-clause-beginning g t c =
    let start = stage c.args.registers.now.items c.args.store.now (g.S.Sink.told c.args.sink.now) in
    rw c.in-For.is (entry_begun c.in-For.lowered c.in-For._head c.in-For.body start (g.S.Sink.told c.perform-in-For.new.sink) c.in_err-perform-in-For.ensures.beginning)

pub team_statement-loop-turn-init : goal.team_statement-loop-turn-init
team_statement-loop-turn-init g t c =
    let start = stage c.args.registers.now.items c.args.store.now (g.S.Sink.told c.args.sink.now) in
    let there = stage c.perform-in-For.new.registers.items c.perform-in-For.new.store (g.S.Sink.told c.perform-in-For.new.sink) in
    (rw c.in-For.is (loop_entered c.in-For.lowered c.in-For._head c.in-For.body start there c.in_ok-perform-in-For.ensures.ran), c.in_ok-perform-in-For.ensures.sound, c.in_ok-perform-in-For.ensures.shape)

pub team_statement-returns-then-not-holds-clause-ran : goal.team_statement-returns-then-not-holds-clause-ran
team_statement-returns-then-not-holds-clause-ran g t c =
    let start = stage c.args.registers.now.items c.args.store.now (g.S.Sink.told c.args.sink.now) in
    let here = stage c.loop-turn.registers.items c.loop-turn.store (g.S.Sink.told c.loop-turn.sink) in
    rw c.in-For.is (turns_done c.in-For.lowered c.in-For._head c.in-For.body c.loop-turn._turn start here c.holds-in-loop-turn.result c.holds-in-loop-turn.ensures (rw c.in-For.is at c.loop-turn.invariant.0) c.if-not-holds.true)

pub team_statement-returns-then-not-holds-clause-beginning : goal.team_statement-returns-then-not-holds-clause-beginning
team_statement-returns-then-not-holds-clause-beginning g t c =
    let start = stage c.args.registers.now.items c.args.store.now (g.S.Sink.told c.args.sink.now) in
    let here = stage c.loop-turn.registers.items c.loop-turn.store (g.S.Sink.told c.loop-turn.sink) in
    rw c.in-For.is (turns_stop c.in-For.lowered c.in-For._head c.in-For.body c.loop-turn._turn start here (rw c.in-For.is at c.loop-turn.invariant.0))

pub team_statement-returns-after-loop-turn-clause-ran : goal.team_statement-returns-after-loop-turn-clause-ran
team_statement-returns-after-loop-turn-clause-ran g t c =
    let start = stage c.args.registers.now.items c.args.store.now (g.S.Sink.told c.args.sink.now) in
    let here = stage c.loop-turn.registers.items c.loop-turn.store (g.S.Sink.told c.loop-turn.sink) in
    rw c.in-For.is (turns_end c.in-For.lowered c.in-For._head c.in-For.body c.loop-turn._turn start here (omega arith) (rw c.in-For.is at c.loop-turn.invariant.0))

pub team_statement-returns-after-loop-turn-clause-beginning : goal.team_statement-returns-after-loop-turn-clause-beginning
team_statement-returns-after-loop-turn-clause-beginning g t c =
    let start = stage c.args.registers.now.items c.args.store.now (g.S.Sink.told c.args.sink.now) in
    let here = stage c.loop-turn.registers.items c.loop-turn.store (g.S.Sink.told c.loop-turn.sink) in
    rw c.in-For.is (turns_stop c.in-For.lowered c.in-For._head c.in-For.body c.loop-turn._turn start here (rw c.in-For.is at c.loop-turn.invariant.0))

pub team_statement-returns-in_err-team_statement-in-For-clause-beginning : goal.team_statement-returns-in_err-team_statement-in-For-clause-beginning
team_statement-returns-in_err-team_statement-in-For-clause-beginning g t c =
    let start = stage c.args.registers.now.items c.args.store.now (g.S.Sink.told c.args.sink.now) in
    let here = stage c.loop-turn.registers.items c.loop-turn.store (g.S.Sink.told c.loop-turn.sink) in
    rw c.in-For.is (body_begun c.in-For.lowered c.in-For._head c.in-For.body c.loop-turn._turn start here c.holds-in-loop-turn.result c.holds-in-loop-turn.ensures (rw c.in-For.is at c.loop-turn.invariant.0) c.loop-turn-test.true c.if-not-holds.false (g.S.Sink.told c.team_statement-in-loop-turn.new.sink) (rw c.deref-in-loop-turn.ensures at c.in_err-team_statement-in-For.ensures.beginning))

pub team_statement-returns-in_err-perform-in-For-2-clause-beginning : goal.team_statement-returns-in_err-perform-in-For-2-clause-beginning
team_statement-returns-in_err-perform-in-For-2-clause-beginning g t c =
    let start = stage c.args.registers.now.items c.args.store.now (g.S.Sink.told c.args.sink.now) in
    let here = stage c.loop-turn.registers.items c.loop-turn.store (g.S.Sink.told c.loop-turn.sink) in
    let after = stage c.team_statement-in-loop-turn.new.registers.items c.team_statement-in-loop-turn.new.store (g.S.Sink.told c.team_statement-in-loop-turn.new.sink) in
    let on = body_walked c.in-For.lowered c.in-For._head c.in-For.body c.loop-turn._turn start here c.holds-in-loop-turn.result c.holds-in-loop-turn.ensures (rw c.in-For.is at c.loop-turn.invariant.0) c.loop-turn-test.true c.if-not-holds.false after (rw c.deref-in-loop-turn.ensures at c.in_ok-team_statement-in-For.ensures.ran) in
    rw c.in-For.is (step_begun c.in-For.lowered c.in-For._head c.in-For.body c.loop-turn._turn start after on (g.S.Sink.told c.perform-in-loop-turn.new.sink) c.in_err-perform-in-For-2.ensures.beginning)

pub team_statement-loop-turn-preserved : goal.team_statement-loop-turn-preserved
team_statement-loop-turn-preserved g t c =
    let start = stage c.args.registers.now.items c.args.store.now (g.S.Sink.told c.args.sink.now) in
    let here = stage c.loop-turn.registers.items c.loop-turn.store (g.S.Sink.told c.loop-turn.sink) in
    let after = stage c.team_statement-in-loop-turn.new.registers.items c.team_statement-in-loop-turn.new.store (g.S.Sink.told c.team_statement-in-loop-turn.new.sink) in
    let on = body_walked c.in-For.lowered c.in-For._head c.in-For.body c.loop-turn._turn start here c.holds-in-loop-turn.result c.holds-in-loop-turn.ensures (rw c.in-For.is at c.loop-turn.invariant.0) c.loop-turn-test.true c.if-not-holds.false after (rw c.deref-in-loop-turn.ensures at c.in_ok-team_statement-in-For.ensures.ran) in
    let there = stage c.perform-in-loop-turn.new.registers.items c.perform-in-loop-turn.new.store (g.S.Sink.told c.perform-in-loop-turn.new.sink) in (
      rw c.in-For.is (step_walked c.in-For.lowered c.in-For._head c.in-For.body c.loop-turn._turn start after on there c.in_ok-perform-in-For-2.ensures.ran),
      c.in_ok-perform-in-For-2.ensures.sound ∙ c.in_ok-team_statement-in-For.ensures.sound ∙ c.loop-turn.invariant.1,
      c.in_ok-perform-in-For-2.ensures.shape ∙ c.in_ok-team_statement-in-For.ensures.shape ∙ c.loop-turn.invariant.2,
    )

pub team_statement-returns-in-Block-clause-ran : goal.team_statement-returns-in-Block-clause-ran
team_statement-returns-in-Block-clause-ran g t c =
    let start = stage c.args.registers.now.items c.args.store.now (g.S.Sink.told c.args.sink.now) in
    let there = stage c.team_block.new.registers.items c.team_block.new.store (g.S.Sink.told c.team_block.new.sink) in
    rw c.in-Block.is (on_ok_weaker c.team_block.result (λ walked. block_walked c.in-Block.items c.deref-in-Block.result.now c.deref-in-Block.ensures.value start there walked) c.team_block.ensures.ran)

pub team_statement-returns-in-Block-clause-beginning : goal.team_statement-returns-in-Block-clause-beginning
team_statement-returns-in-Block-clause-beginning g t c =
    let start = stage c.args.registers.now.items c.args.store.now (g.S.Sink.told c.args.sink.now) in
    rw c.in-Block.is (block_begun c.in-Block.items c.deref-in-Block.result.now c.deref-in-Block.ensures.value start (g.S.Sink.told c.team_block.new.sink) c.team_block.ensures.beginning)

pub team_statement-returns-then-holds-clause-ran : goal.team_statement-returns-then-holds-clause-ran
team_statement-returns-then-holds-clause-ran g t c =
    let start = stage c.args.registers.now.items c.args.store.now (g.S.Sink.told c.args.sink.now) in
    let there = stage c.team_statement.new.registers.items c.team_statement.new.store (g.S.Sink.told c.team_statement.new.sink) in
    rw c.in-If.is (on_ok_weaker c.team_statement.result (λ walked. first_walked c.in-If.test c.in-If._cond c.in-If.then start c.holds.result c.holds.ensures c.in-If.other c.if-holds.true there walked) (rw c.deref.ensures at c.team_statement.ensures.ran))

pub team_statement-returns-then-holds-clause-beginning : goal.team_statement-returns-then-holds-clause-beginning
team_statement-returns-then-holds-clause-beginning g t c =
    let start = stage c.args.registers.now.items c.args.store.now (g.S.Sink.told c.args.sink.now) in
    rw c.in-If.is (first_begun c.in-If.test c.in-If._cond c.in-If.then start c.holds.result c.holds.ensures c.in-If.other c.if-holds.true (g.S.Sink.told c.team_statement.new.sink) (rw c.deref.ensures at c.team_statement.ensures.beginning))

pub team_statement-returns-in-Some-clause-ran : goal.team_statement-returns-in-Some-clause-ran
team_statement-returns-in-Some-clause-ran g t c =
    let start = stage c.args.registers.now.items c.args.store.now (g.S.Sink.told c.args.sink.now) in
    let there = stage c.team_statement-in-Some.new.registers.items c.team_statement-in-Some.new.store (g.S.Sink.told c.team_statement-in-Some.new.sink) in
    rw (c.in-If.is, c.in-Some.is) (on_ok_weaker c.team_statement-in-Some.result (λ walked. second_walked c.in-If.test c.in-If._cond c.in-If.then start c.holds.result c.holds.ensures c.in-Some.other c.if-holds.false there walked) (rw c.deref-in-Some.ensures at c.team_statement-in-Some.ensures.ran))

pub team_statement-returns-in-Some-clause-beginning : goal.team_statement-returns-in-Some-clause-beginning
team_statement-returns-in-Some-clause-beginning g t c =
    let start = stage c.args.registers.now.items c.args.store.now (g.S.Sink.told c.args.sink.now) in
    rw (c.in-If.is, c.in-Some.is) (second_begun c.in-If.test c.in-If._cond c.in-If.then start c.holds.result c.holds.ensures c.in-Some.other c.if-holds.false (g.S.Sink.told c.team_statement-in-Some.new.sink) (rw c.deref-in-Some.ensures at c.team_statement-in-Some.ensures.beginning))

pub team_statement-returns-in_default-clause-ran : goal.team_statement-returns-in_default-clause-ran
team_statement-returns-in_default-clause-ran g t c =
    let start = stage c.args.registers.now.items c.args.store.now (g.S.Sink.told c.args.sink.now) in
    rw (c.in-If.is, c.in_default.is) (nothing_walked c.in-If.test c.in-If._cond c.in-If.then start c.holds.result c.holds.ensures c.if-holds.false)

pub team_statement-returns-in-Serial-clause-ran : goal.team_statement-returns-in-Serial-clause-ran
team_statement-returns-in-Serial-clause-ran g t c =
    rw c.in-Serial.is (on_ok_weaker c.perform.result (λ walked layout mark R serial fits. walked layout mark _ fits) c.perform.ensures.ran)

pub team_statement-returns-in-Serial-clause-beginning : goal.team_statement-returns-in-Serial-clause-beginning
team_statement-returns-in-Serial-clause-beginning g t c =
    rw c.in-Serial.is (λ layout mark R serial fits. c.perform.ensures.beginning layout mark _ fits)

pub team_statement-returns-in-Team-clause-ran : goal.team_statement-returns-in-Team-clause-ran
team_statement-returns-in-Team-clause-ran g t c =
    rw c.in-Team.is c.run_parallel_loop.ensures.ran

pub team_statement-returns-in-Team-clause-beginning : goal.team_statement-returns-in-Team-clause-beginning
team_statement-returns-in-Team-clause-beginning g t c =
    rw c.in-Team.is c.run_parallel_loop.ensures.beginning

pub team_item-returns-in-Plain-clause-ran : goal.team_item-returns-in-Plain-clause-ran
team_item-returns-in-Plain-clause-ran g t c =
    rw c.in-Plain.is (on_ok_weaker c.perform.result (λ walked layout mark R serial fits. walked layout mark _ fits) c.perform.ensures.ran)

pub team_item-returns-in-Plain-clause-beginning : goal.team_item-returns-in-Plain-clause-beginning
team_item-returns-in-Plain-clause-beginning g t c =
    rw c.in-Plain.is (λ layout mark R serial fits. c.perform.ensures.beginning layout mark _ fits)
