use Rattle.std.proofs.Common.{◌∙◌, sym, IsTrue}
use Rattle.std.proofs.lemmas.Bool.{true≢false}
use Rattle.nest_loop.proofs.Boxes.{true_by, false_by}
use Rattle.nest_loop.proofs.wrapping.wraps.Goals as goal

pub returns-then-not-are_modest-clause-wraps : goal.returns-then-not-are_modest-clause-wraps
returns-then-not-are_modest-clause-wraps c e all =
    let modest : IsTrue c.are_modest.result = c.are_modest.ensures.1 (λ values inside. (all values inside).start, λ values inside. (all values inside).limit) in
    true≢false (sym modest ∙ c.if-not-are_modest.true)

pub returns-clause-stays : goal.returns-clause-stays
returns-clause-stays c e values inside =
    let modest = c.are_modest.ensures.0 c.if-not-are_modest.false in
    let room = c.in_ok-room.ensures.ok.0 (true_by c.in_ok-room.room e) in record {
      start = modest.0 values inside;
      limit = modest.1 values inside;
      room = room values inside;
    }

pub returns-clause-wraps : goal.returns-clause-wraps
returns-clause-wraps c e all =
    let room : IsTrue c.in_ok-room.room = c.in_ok-room.ensures.ok.1 (λ values inside. (all values inside).room) in
    true≢false (sym room ∙ false_by c.in_ok-room.room e)
