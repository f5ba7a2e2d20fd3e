use Rattle.std.proofs.Common.{sym, subst}
use Rattle.affine.specs.declared.interval.Interval.{Interval}
use Rattle.affine.specs.Box.{EndsFit}
use Rattle.pairtest_counter.proofs.Chains.{inner_level, entering_with}
use Rattle.pairtest_counter.proofs.chain.EnclosingLoops.enter.Goals as goal

pub put-requires-clause-level : goal.put-requires-clause-level
put-requires-clause-level c =
    let body = c.requires.0 in
    inner_level c.args.self.now c.args.head.now body c.in_ok-inner.inner (c.in_ok-inner.ensures.ok body c.requires.1)

pub put-requires-clause-fits : goal.put-requires-clause-fits
put-requires-clause-fits c = subst (λ (i : Interval). EndsFit i.least i.greatest) (sym c.in_ok-inner.ensures.numbers) c.requires.1.fits

pub returns-clause-ok : goal.returns-clause-ok
returns-clause-ok c = entering_with c.put.result c.args.self.now c.put.new.self c.args.head.now c.args.facts.now c.in_ok-inner.inner c.in_ok-inner.ensures.ok c.put.ensures.ok
