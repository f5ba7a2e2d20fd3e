use Rattle.std.proofs.Common.{arith, length-drop, ◌∙◌}
use Rattle.std.proofs.lemmas.List.{take_rest}
use Rattle.seqrun_io.proofs.Beginnings.{put_on, begun}
use Rattle.seqrun_io.proofs.sink.put_all.Goals as goal

pub loop-start-preserved : goal.loop-start-preserved
loop-start-preserved g c =
    let within = c.in-Ok.ensures.within in
    let before = c.loop-start.invariant in
    (omega (arith, length-drop c.loop-start.start c.args.bytes.now, within), put_on _ _ _ _ _ _ before.1 (rw take_rest at c.in-Ok.ensures.taken), c.in-Ok.ensures.sound ∙ before.2)

pub returns-in-Err-clause-beginning : goal.returns-in-Err-clause-beginning
returns-in-Err-clause-beginning g c = begun _ _ _ _ _ c.loop-start.invariant.1 c.in-Err.ensures.refused
