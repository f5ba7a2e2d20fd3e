use Rattle.std.specs.Prelude.{◌<◌}
use Rattle.std.proofs.Common.{List, sym, subst, ap, length}
use Rattle.pairtest_counter.specs.declared.level.EnclosingLoop.{EnclosingLoop}
use Rattle.pairtest_counter.specs.Counters.{Given, AreForms}
use Rattle.pairtest_counter.specs.Levels.{Nesting}
use Rattle.pairtest_counter.proofs.Chains.{few_outer, inner_with}
use Rattle.pairtest_counter.proofs.chain.EnclosingLoops.inner.Goals as goal

pub level_of-requires : goal.level_of-requires
level_of-requires c =
    let few = subst (λ (n : Nesting). length n.box < 8) (sym c.self.view_is) c.requires.1.loop.few in
    few_outer c.self.inside.bounds c.self.inside.levels.items _ c.self.invariant few (ap (λ vs. length vs) c.as_slice-outer.ensures.value)

pub returns-clause-ok : goal.returns-clause-ok
returns-clause-ok c =
    let v = c.in_ok-level.level in
    let facts = c.args.facts.now in
    inner_with c.args.self.now (record { box = c.self.inside.bounds; levels = c.self.inside.levels.items }) c.args.head.now facts v c.self.view_is c.in_ok-level.ensures.canonical
    c.in_ok-level.ensures.most (subst (λ (us : List EnclosingLoop). Given (AreForms us facts.canonical) v.forms) c.as_slice-outer.ensures.value c.in_ok-level.ensures.forms)
