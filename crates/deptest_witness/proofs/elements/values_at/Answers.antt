use Rattle.std.proofs.Common.{arith, subst, sym, ap, ◌∙◌, ◌++◌, ℕ}
use Rattle.std.proofs.lemmas.List.{length-take}
use Rattle.nest_space.specs.Nests.{given, AreModest}
use Rattle.nest_space.proofs.Runs.{length-runs}
use Rattle.deptest_witness.proofs.Entering.{modest_more, held_modest}
use Rattle.deptest_witness.specs.Touching.{held}
use Rattle.deptest_witness.proofs.elements.values_at.Goals as goal

pub vector-requires-clause-values : goal.vector-requires-clause-values
vector-requires-clause-values c =
    let same = length-runs c.args.region.now.loops.now (given c.args.region.now.outer.now) c.args.region.now.space.now c.requires.known.runs in
    let few = c.requires.known.loops in
    omega (arith, length-take {A = ℕ})

pub returns-clause-modest : goal.returns-clause-modest
returns-clause-modest c =
    let region = c.args.region.now in
    let one = held_modest region.loops.now (given region.outer.now) region.space.now c.args.number c.vector.new.values c.requires.known.runs c.vector.ensures in
    subst AreModest (sym (c.in_ok-hold.ensures ∙ ap (λ vs. vs ++ held region.loops.now c.vector.new.values) c.in_ok-values.ensures.items))
    (modest_more region.outer.now (held region.loops.now c.vector.new.values) c.requires.known.modest one)
