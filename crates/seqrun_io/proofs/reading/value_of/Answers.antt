use Rattle.std.proofs.Common.{arith, ◌∙◌}
use Rattle.seqrun_io.proofs.LineSteps.{too_big, read_word}
use Rattle.std.proofs.lemmas.Bool.Decides.{nat_tests}
use Rattle.seqrun_io.proofs.reading.value_of.Goals as goal
use Rattle.seqrun_io.proofs.reading.value_of.Goals.{then-word-gt1, else-word-gt1}

pub returns-in_err-checked_mul : goal.returns-in_err-checked_mul
returns-in_err-checked_mul c =
    c.from_residual.ensures ∙ too_big c.args.word.now c.loop-byte.value c.loop-byte.byte-index (omega arith) c.loop-byte.invariant.1 (omega (arith, c.in_err-checked_mul.ensures))

pub returns-in_err-value : goal.returns-in_err-value
returns-in_err-value c =
    c.from_residual-in_err-value.ensures ∙ too_big c.args.word.now c.loop-byte.value c.loop-byte.byte-index (omega arith) c.loop-byte.invariant.1 (omega (arith, c.in_err-value.ensures))

pub returns : goal.returns
returns c =
    read_word c.args.word.now c.loop-byte.value c.loop-byte.byte-index (omega arith) (let e = c.if-is_empty.ensures in grind (arith, nat_tests))
    (λ more zero. elim c.if-word-gt1.branch [ then-word-gt1 w ↦ grind (arith, nat_tests) | else-word-gt1 w ↦ absurd (omega arith) ])
    c.loop-byte.invariant.0 c.loop-byte.invariant.1 c.loop-byte.invariant.2
