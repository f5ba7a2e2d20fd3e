use Rattle.std.proofs.Common.{◌∙◌, sym}
use Rattle.ctoken.proofs.CheckLaw.{trigraph-step}
use Rattle.ctoken.proofs.check.trigraph.Goals as goal

pub loop-i-preserved : goal.loop-i-preserved
loop-i-preserved c = trigraph-step c.args.text.now c.loop-i.i _ c.loop-i-test.true c.loop-i.invariant (sym c.begins_trigraph.ensures ∙ c.if-begins_trigraph.false)
