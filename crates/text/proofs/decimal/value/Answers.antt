use Rattle.std.proofs.Common.{arith}
use Rattle.std.proofs.lemmas.List.{at_drop_all}
use Rattle.semantics.specs.Source.Cuts.{decimal_from}
use Rattle.text.proofs.Digits.{decimal_from-step}
use Rattle.text.proofs.decimal.value.Goals as goal

pub returns-in_err-checked_mul : goal.returns-in_err-checked_mul
returns-in_err-checked_mul c =
    let step = decimal_from-step c.loop-digit.value c.loop-digit.digit-index c.args.digits.now c.loop-digit-test.true in
    rw c.from_residual.ensures (λ h. c.in_err-checked_mul.ensures (omega (arith, step, c.loop-digit.invariant.1)))

pub returns-in_err-value : goal.returns-in_err-value
returns-in_err-value c =
    let step = decimal_from-step c.loop-digit.value c.loop-digit.digit-index c.args.digits.now c.loop-digit-test.true in
    rw c.from_residual-in_err-value.ensures (λ h. c.in_err-value.ensures (omega (arith, step, c.loop-digit.invariant.1, c.in_ok-checked_mul.ensures)))

pub returns : goal.returns
returns c =
    let all = at_drop_all (decimal_from c.loop-digit.value) c.args.digits.now c.loop-digit.digit-index c.loop-digit-test.false in
    (omega (arith, all, c.loop-digit.invariant.1), omega (arith, all, c.loop-digit.invariant.1))
