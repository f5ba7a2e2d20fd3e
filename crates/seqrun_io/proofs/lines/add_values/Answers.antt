use Rattle.std.proofs.Common.{◌∙◌, arith}
use Rattle.seqrun_io.proofs.Beginnings.{on_held, more_held}
use Rattle.seqrun_io.proofs.Puts.{values_space, values_text, values_held}
use Rattle.seqrun_io.proofs.lines.add_values.Goals as goal

pub returns-in_err-add-clause-beginning : goal.returns-in_err-add-clause-beginning
returns-in_err-add-clause-beginning g c =
    values_space _ _ c.args.held.now.items c.args.values.now c.loop-value.value-index (omega arith) (on_held _ _ _ _ _ _ c.loop-value.invariant.0 c.in_err-add.ensures.beginning)

pub returns-in_err-add-2-clause-beginning : goal.returns-in_err-add-2-clause-beginning
returns-in_err-add-2-clause-beginning g c =
    values_text _ _ c.args.held.now.items c.args.values.now c.loop-value.value-index _ (omega arith) (c.as_bytes.ensures.value ∙ c.format.ensures.text)
    (on_held _ _ _ _ _ _ (more_held _ _ _ _ _ _ _ c.loop-value.invariant.0 c.in_ok-add.ensures.added) c.in_err-add-2.ensures.beginning)

pub loop-value-preserved : goal.loop-value-preserved
loop-value-preserved g c = (
  values_held _ _ _ c.args.held.now.items c.args.values.now c.loop-value.value-index _ (omega arith) (c.as_bytes.ensures.value ∙ c.format.ensures.text)
      (more_held _ _ _ _ _ _ _ (more_held _ _ _ _ _ _ _ c.loop-value.invariant.0 c.in_ok-add.ensures.added) c.in_ok-add-2.ensures.added),
  c.in_ok-add-2.ensures.sound ∙ c.in_ok-add.ensures.sound ∙ c.loop-value.invariant.1,
)
