use Rattle.std.specs.Prelude.{◌≡◌}
use Rattle.std.proofs.Common.{ap, length, arith, rules}
use Rattle.nest_loop.specs.Loops.{inside}
use Rattle.pairtest_counter.proofs.Chains.{inserted}
use Rattle.pairtest_counter.proofs.chain.put_inside.Goals as goal

pub unbind-requires : goal.unbind-requires
unbind-requires c =
    let box : c.bind_variable.new.bounds ≡ inside c.args.bounds.now c.args.inner.level.canonical.variable.0 c.args.inner.numbers = c.in_ok-bind_variable.ensures.ok in
    let e = ap (λ ss. length ss) box in omega arith

pub returns-clause-levels : goal.returns-clause-levels
returns-clause-levels c = inserted c.args.levels.now.items c.insert.new.self.items c.args.inner.level c.insert.result c.insert.ensures.items (search rules)
