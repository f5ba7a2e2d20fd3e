use Rattle.std.proofs.Common.{◌+◌, ◌*◌, arith, ap, ◌∙◌}
use Rattle.std.proofs.lemmas.Result.{IfOk-weaker, IfOk-at_ok}
use Rattle.lower_machine.specs.Machine.{after}
use Rattle.lower_unroll.proofs.Copies.{IsCopy}
use Rattle.lower_unroll.proofs.Counts.{none_written, more_written, all_written}
use Rattle.lower_unroll.proofs.unrolling.copies.Goals as goal

pub turns-init : goal.turns-init
turns-init c = (omega arith, none_written c.args.counted.body.now c.args.counted.variable.at c.args.counted.first c.args.counted.by c.args.counted.turns)

pub turns-preserved : goal.turns-preserved
turns-preserved c =
    let k = c.args.counted in
    let p = c.in_ok-before in
    let copy : IsCopy k.variable.at (k.first + c.turns.turn * k.by) k.body.now p.next = IfOk-at_ok (IsCopy k.variable.at (k.first + c.turns.turn * k.by) k.body.now) p.ensures.next c.copy_code.ensures in (
      let lt = c.turns-test.true in omega arith,
      more_written k.body.now k.variable.at k.first k.by k.turns c.turns.turn c.turns.code p.next c.in_ok-code.code c.turns-test.true copy
          (λ r. c.in_ok-code.ensures r ∙ ap (λ b. after p.next (after b r)) p.ensures.before) c.turns.invariant.1,
    )

pub returns : goal.returns
returns c =
    let k = c.args.counted in
    IfOk-weaker c.then-2.result _ _ (λ b is r lt.
    is r ∙ c.set_to-end.ensures (after c.turns.code r)
    ∙ all_written k.body.now k.variable.at k.first k.by k.turns c.turns.turn c.turns.code (let f = c.turns-test.false in let i = c.turns.invariant.0 in omega arith) c.turns.invariant.1 r lt) c.then-2.ensures
