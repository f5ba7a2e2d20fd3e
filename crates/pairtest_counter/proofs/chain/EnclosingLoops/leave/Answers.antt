use Rattle.pairtest_counter.proofs.Chains.{left_over}
use Rattle.pairtest_counter.proofs.chain.EnclosingLoops.leave.Goals as goal

pub invariant_of-self : goal.invariant_of-self
invariant_of-self c = left_over c.self.inside.bounds c.unbind.new.self c.self.inside.levels.items c.remove.new.self.items c.self.invariant c.unbind.ensures c.remove.ensures.items
