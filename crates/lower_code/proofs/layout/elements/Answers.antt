use Rattle.std.proofs.Common.{refl}
use Rattle.lower_code.proofs.Laying.{product_on}
use Rattle.lower_code.proofs.layout.elements.Goals as goal

pub loop-length-preserved : goal.loop-length-preserved
loop-length-preserved c = product_on c.loop-length.count _ c.args.lengths.now c.loop-length.length-index _ c.loop-length-test.true refl c.loop-length.invariant refl
