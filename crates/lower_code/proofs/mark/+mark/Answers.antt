use Rattle.std.proofs.Common.{sym, subst, arith}
use Rattle.semantics.specs.Meaning.Agrees.{declared_in}
use Rattle.ktree.proofs.Trees.{block_is}
use Rattle.lower_code.specs.Meaning.{AreBelow}
use Rattle.lower_code.proofs.Marks.{marked_on}
use Rattle.lower_code.proofs.mark.+mark.Goals as goal

pub mark_among-loop-item-preserved : goal.mark_among-loop-item-preserved
mark_among-loop-item-preserved t c =
    let max = c.max-mark.ensures in
    let few = c.mark_at-next.ensures.few in
    let (marked, so_far) = c.loop-item.invariant in
    (marked_on c.args.items.now c.loop-item.item-index c.loop-item.mark c.mark_at-next.result c.max-mark.result c.item-item.result c.loop-item-test.true c.item-item.is marked c.mark_at-next.ensures.below (omega arith) (omega arith), omega (arith, few, so_far))

pub mark_in-returns-in-Block-clause-below : goal.mark_in-returns-in-Block-clause-below
mark_in-returns-in-Block-clause-below t c =
    subst (λ s. AreBelow c.mark_among.result (declared_in s)) (sym (block_is c.args.stmt.now c.in-Block.items _ c.in-Block.is c.deref-in-Block.ensures.value)) c.mark_among.ensures.below
