use Rattle.std.proofs.Common.{arith, ap, sym, ◌∙◌}
use Rattle.seqrun_io.specs.Reading.{value_of_word}
use Rattle.seqrun_io.proofs.LineSteps.{not_read, one_read}
use Rattle.seqrun_io.proofs.reading.read_values.Goals as goal

pub returns-in_default-value_of : goal.returns-in_default-value_of
returns-in_default-value_of c =
    not_read _ _ _ c.in-Some.words.now _ _ c.loop-words.invariant c.in-Some.ensures.cases.0 c.length_before.ensures
    (ap value_of_word (sym c.split_at.ensures.front) ∙ sym c.value_of.ensures ∙ c.in_default-value_of.is)

pub loop-words-preserved : goal.loop-words-preserved
loop-words-preserved c =
    let e = c.in_ok-push.ensures.items in
    rw (c.in_ok-push.ensures.items, c.split_at.ensures.back)
    (one_read _ _ _ c.in-Some.words.now _ _ c.loop-words.invariant c.in-Some.ensures.cases.0 c.length_before.ensures c.in-Some-value_of.value (omega arith)
    (ap value_of_word (sym c.split_at.ensures.front) ∙ sym c.value_of.ensures ∙ c.in-Some-value_of.is))
