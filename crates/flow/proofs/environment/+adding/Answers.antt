use Rattle.std.specs.Prelude.{◌≡◌, ◌++◌, OnOk}
use Rattle.std.proofs.Common.{sym, subst}
use Rattle.semantics.specs.Meaning.Agrees.{declared_in}
use Rattle.ktree.proofs.Trees.{block_is}
use Rattle.flow.specs.Parallel.{numbers}
use Rattle.flow.proofs.ParallelLemmas.{declared_step}
use Rattle.flow.proofs.environment.+adding.Goals as goal

pub add_declared-returns-in-Block : goal.add_declared-returns-in-Block
add_declared-returns-in-Block t c =
    subst (λ s. OnOk c.add_declared_among.result (numbers c.add_declared_among.new.variables.items ≡ numbers c.args.variables.now.items ++ declared_in s))
    (sym (block_is c.args.statement.now c.in-Block.items c.deref-in-Block.result.now c.in-Block.is c.deref-in-Block.ensures.value)) c.add_declared_among.ensures

pub add_declared_among-loop-item-preserved : goal.add_declared_among-loop-item-preserved
add_declared_among-loop-item-preserved t c =
    declared_step c.args.items.now c.loop-item.item-index c.item-item.result c.loop-item-test.true c.item-item.is (numbers c.args.variables.now.items) (numbers c.loop-item.variables.items)
    (numbers c.add_item.new.variables.items) c.loop-item.invariant c.in_ok-add_item.ensures
