use Rattle.std.proofs.Common.{sym, subst}
use Rattle.affine.specs.Box.{side}
use Rattle.pairtest_counter.specs.Levels.{Nesting, IsLevel}
use Rattle.pairtest_counter.proofs.Chains.{put_inside, put_whole, put_none}
use Rattle.pairtest_counter.proofs.chain.EnclosingLoops.put.Goals as goal

pub invariant_of-self : goal.invariant_of-self
invariant_of-self c =
    let v = c.args.inner in
    put_inside c.put_inside.result (record { box = c.self.inside.bounds; levels = c.self.inside.levels.items }) v c.put_inside.new.bounds c.put_inside.new.levels.items c.self.invariant
    (subst (λ (m : Nesting). IsLevel m.box m.levels (side v.level.canonical.variable.0 v.numbers.least v.numbers.greatest) v.level) (sym c.self.view_is) c.requires.level)
    c.put_inside.ensures.numbers c.put_inside.ensures.levels c.put_inside.ensures.same_numbers c.put_inside.ensures.same_levels

pub returns-clause-ok : goal.returns-clause-ok
returns-clause-ok c =
    put_whole c.put_inside.result (record { box = c.self.inside.bounds; levels = c.self.inside.levels.items }) c.args.self.now c.args.inner c.put_inside.new.bounds c.put_inside.new.levels.items
    c.self.view_is c.put_inside.ensures.numbers c.put_inside.ensures.levels

pub returns-clause-err : goal.returns-clause-err
returns-clause-err c =
    put_none c.put_inside.result (record { box = c.self.inside.bounds; levels = c.self.inside.levels.items }) c.args.self.now c.put_inside.new.bounds c.put_inside.new.levels.items
    c.self.view_is c.put_inside.ensures.same_numbers c.put_inside.ensures.same_levels
