use Rattle.std.proofs.Common.{ℕ, arith}
use Rattle.pairtest.specs.DirectionVectors.{IsDirectionRefuted, IsDirectionWithin}
use Rattle.pairtest.proofs.Summaries.{if_err_any, cases_more, both_more}
use Rattle.pairtest.proofs.direction.independent.Goals as goal

pub loop-at-preserved : goal.loop-at-preserved
loop-at-preserved c =
    let nest = c.args.nest.now in
    let x = c.args.x.now in
    let y = c.args.y.now in
    record {
      refuted =
          cases_more {P = λ (m : ℕ). IsDirectionRefuted nest m x y} {Q = λ (m : ℕ). IsDirectionRefuted nest m y x} c.loop-at.at c.loop-at.all c.in_ok-all.field-0 c.in_ok-all-2.field-0
          c.loop-at.invariant.refuted c.in_ok-all.ensures.ok c.in_ok-all-2.ensures.ok;
      within =
          both_more {P = λ (m : ℕ). IsDirectionWithin nest m x y} {Q = λ (m : ℕ). IsDirectionWithin nest m y x} c.loop-at.at
          c.loop-at.invariant.within c.in_ok-all.ensures.within c.in_ok-all-2.ensures.within;
    }

pub returns-in_err-all-clause-err : goal.returns-in_err-all-clause-err
returns-in_err-all-clause-err c = if_err_any c.from_residual.result (λ all. c.in_err-all.ensures.err (all c.loop-at.at (omega arith)).0)

pub returns-in_err-all-2-clause-err : goal.returns-in_err-all-2-clause-err
returns-in_err-all-2-clause-err c = if_err_any c.from_residual-in_err-all-2.result (λ all. c.in_err-all-2.ensures.err (all c.loop-at.at (omega arith)).1)

pub returns-clause-ok : goal.returns-clause-ok
returns-clause-ok c =
    (λ t m l. c.loop-at.invariant.refuted.0 t m (omega arith), λ h. c.loop-at.invariant.refuted.1 (λ m l. h m (omega arith)))

pub returns-clause-within : goal.returns-clause-within
returns-clause-within c = λ m l. c.loop-at.invariant.within m (omega arith)
