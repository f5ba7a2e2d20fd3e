use Rattle.std.proofs.Common.{subst}
use Rattle.seqrun_io.specs.Told.{AddsBeginning}
use Rattle.seqrun_io.proofs.Beginnings.{of_front}
use Rattle.seqrun_io.proofs.lines.add.Goals as goal

pub returns-in_err-put_all-clause-beginning : goal.returns-in_err-put_all-clause-beginning
returns-in_err-put_all-clause-beginning g c =
    of_front _ _ _ _ (subst (AddsBeginning (g.S.Sink.told c.args.sink.now) (g.S.Sink.told c.put_all.new.sink)) c.as_slice.ensures.value c.put_all.ensures.beginning)
