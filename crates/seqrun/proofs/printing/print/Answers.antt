use Rattle.std.proofs.Common.{refl, ◌∙◌}
use Rattle.seqrun_value.specs.Standing.{standing}
use Rattle.seqrun_io.proofs.Beginnings.{whole}
use Rattle.seqrun.proofs.PrintLemmas.{printing_from, part_some, printing_on, printing_begun, printing_over}
use Rattle.seqrun.proofs.printing.print.Goals as goal

pub loop-part-init : goal.loop-part-init
loop-part-init g c = (printing_from _ _, refl)

pub print_part-requires-clause-text : goal.print_part-requires-clause-text
print_part-requires-clause-text g c = part_some (standing c.args.frame.now c.args.store.now) c.args.parts.now c.loop-part.part-index c.part-item.result c.loop-part-test.true c.part-item.is _ _ _ c.loop-part.invariant.0 c.requires.text

pub loop-part-preserved : goal.loop-part-preserved
loop-part-preserved g c = (
  printing_on (standing c.args.frame.now c.args.store.now) c.args.parts.now c.loop-part.part-index c.part-item.result c.loop-part-test.true c.part-item.is _ _ _ _ c.loop-part.invariant.0 c.requires.text c.in_ok-print_part.ensures.all,
  c.in_ok-print_part.ensures.sound ∙ c.loop-part.invariant.1,
)

pub returns-in_err-print_part-clause-beginning : goal.returns-in_err-print_part-clause-beginning
returns-in_err-print_part-clause-beginning g c =
    printing_begun (standing c.args.frame.now c.args.store.now) c.args.parts.now c.loop-part.part-index c.part-item.result c.loop-part-test.true c.part-item.is _ _ _ _ c.loop-part.invariant.0 c.requires.text c.in_err-print_part.ensures.beginning

pub returns-clause-all : goal.returns-clause-all
returns-clause-all g c = printing_over (standing c.args.frame.now c.args.store.now) c.args.parts.now c.loop-part.part-index _ _ _ c.loop-part-test.false c.loop-part.invariant.0

pub returns-clause-beginning : goal.returns-clause-beginning
returns-clause-beginning g c = whole _ _ _ (printing_over (standing c.args.frame.now c.args.store.now) c.args.parts.now c.loop-part.part-index _ _ _ c.loop-part-test.false c.loop-part.invariant.0)
